-- The effects of a flow controller's steps, and of the host's, as the code comes to them.
use Rattle.std.proofs.Common.{◌≡◌, ℕ, ◌<◌, ◌≤◌, ◌*◌, ◌&&◌, not, List, refl, sym, ◌∙◌, ap, subst, true≢false, Bool, true, false, length, slice_index_or}
use Rattle.std.specs.Prelude.{Option, Some, None, Ok, Err, is_some, slice_get, if◌then◌else◌}
use Rattle.std.specs.Option.{option_map, option_and_then}
use Rattle.cell_host.specs.declared.HostAction.{HostAction}
use Rattle.cell_host.specs.Script.{Progress}
use Rattle.cell_base.specs.declared.steps.Step.TheVariants.{Host}
use Rattle.mfc_command.specs.declared.command.Command.{Command}
use Rattle.mfc_command.specs.declared.command.Kind.{Kind}
use Rattle.cell_machine.specs.declared.signals.Delivery.{Delivery}
use Rattle.mfc_command.specs.declared.command.AtomicOp.{AtomicOp}
use Rattle.mfc_command.specs.declared.command.AtomicKind.TheVariants.{PutCond}
use Rattle.mfc_command.specs.declared.command.DmaFault.{DmaFault as Fault}
use Rattle.mfc_command.specs.declared.range.Part.{Part}
use Rattle.mfc_lists.specs.declared.Element.{Element}
use Rattle.cell_machine.specs.declared.processor.Processor.{Processor}
use Rattle.cell_machine.specs.declared.memory.SharedMemory.{SharedMemory}
use Rattle.cell_machine.specs.declared.effect.Span.{Span}
use Rattle.cell_machine.specs.declared.effect.Note.{Note}
use Rattle.cell_machine.specs.declared.effect.Note.TheVariants.{Nothing, Ended, Element as Reading}
use Rattle.cell_machine.specs.declared.effect.Effect.{Effect}
use Rattle.cell_machine.specs.Spe.{Spe, is_running, is_faulted}
use Rattle.cell_machine.specs.State.{State}
use Rattle.cell_machine.specs.Memory.{MainMemory}
use Rattle.cell_machine.specs.Moves.{present, parts_in, is_stalled}
use Rattle.cell_machine.specs.Transfers.{Left, may_piece, may_elem, may_retire, piece, piece_of, elem, retire, after_element, next_element, next_at, notified, told, copied, is_put, is_signal, sent, moved as moved_part, delivery, part_in, with_done, with_read, with_retired}
use Rattle.cell_machine.specs.Atomic.{Fate, Got, Stored, Lost, atomic, fate, holds, line_part, moved, answered, after_atomic}
use Rattle.cell_machine.specs.Hosts.{Acted, acted, host, after_action}
use Rattle.cell_machine.specs.Effects.{nowhere, in_memory, in_store, is_fixed, fixes, of_spe, of_command, copy_effect, part_effect, signal_effect, told_delivery, piece_effect, told_element, elem_effect, plain_effect, line_effect, host_writes, host_tells, host_effect, effect_of}
use Rattle.cell_machine.specs.Shows.{Shows, ShowsSpe, IsSignal}
use Rattle.cell_machine.proofs.AllTwo.{two_at, two_none}
use Rattle.cell_machine.proofs.Controllers.{piece-off, piece-on, elem-off, elem-on, retire-off, retire-on}
use Rattle.cell_machine.proofs.Raising.{signal-part, signal-first}
use Rattle.cell_machine.proofs.AtomicSteps.{atomic-is}

-- ---- what a request waits for

-- a copy of bytes leaves it
copied-fixes : (memory : MainMemory) (P : Spe) (put_it : Bool) (x : Part) → fixes (copied memory P put_it x).spe ≡ fixes P
unfolding copied
copied-fixes memory P true x = refl
copied-fixes memory P false x = refl

sent-fixes : (memory : MainMemory) (P : Spe) (x : Part) → fixes (sent memory P x).spe ≡ fixes P
unfolding sent
sent-fixes memory P x = refl

part-fixes : (memory : MainMemory) (P : Spe) (kind : Kind) (x : Part) → fixes (moved_part memory P kind x).spe ≡ fixes P
part-fixes memory P kind x = on (is_signal kind)
  where
    on : (b : Bool) → fixes (if b then sent memory P x else copied memory P (is_put kind) x).spe ≡ fixes P
    on true = sent-fixes memory P x
    on false = copied-fixes memory P (is_put kind) x

-- and so does a stall that is told
notified-fixes : (P : Spe) (c : ℕ) (d : Command) → fixes (notified P c d) ≡ fixes P
notified-fixes P c d = on (is_stalled P.moves c d)
  where
    on : (b : Bool) → fixes (if b then told P d.tag else P) ≡ fixes P
    on true = refl
    on false = refl

-- ---- pieces

pub piece-fixes : (memory : MainMemory) (P : Spe) (c k : ℕ) (d : Command) (x : Element) → fixes (piece_of memory P c k d x).spe ≡ is_fixed P.tags (with_done P.moves c x.number k)
piece-fixes memory P c k d x = part-fixes memory (notified (record P { moves = with_done P.moves c x.number k }) c d) d.kind (part_in x k) ∙ notified-fixes (record P { moves = with_done P.moves c x.number k }) c d

pub piece-none : (memory : MainMemory) (spes spe : ℕ) (P : Spe) (c e k : ℕ) → may_piece P c e k ≡ false → None ≡ option_and_then (λ x. of_command P c (piece_effect spes spe c k P x)) (piece memory P c e k)
piece-none memory spes spe P c e k off = ap (option_and_then (λ x. of_command P c (piece_effect spes spe c k P x))) (sym (piece-off memory P c e k off))

pub piece-some : (memory : MainMemory) (spes spe : ℕ) (P : Spe) (c e k : ℕ) (d : Command) (x : Element) → may_piece P c e k ≡ true → slice_get P.moves.issued c ≡ Some d → present P.moves.read c d ≡ Some x
    → Some (part_effect spes spe d (part_in x k) (piece_of memory P c k d x)) ≡ option_and_then (λ y. of_command P c (piece_effect spes spe c k P y)) (piece memory P c e k)
piece-some memory spes spe P c e k d x may at there = rw (piece-on memory P c e k d x may at there, at) (rw there refl)

-- an effect that writes nothing
abbrev looks : Span → Note → Bool → Effect
looks reads note fixed = record { fetch = nowhere; reads = reads; writes = nowhere; note = note; fixed = fixed }

looks_same : (a b : Span) (n o : Note) (f g : Bool) → a ≡ b → n ≡ o → f ≡ g → looks a n f ≡ looks b o g
looks_same a b n o f g d e h = rw (d, e, h) refl

-- the effect of a part that is copied, and of one that is sent
pub part-copied : (spes spe : ℕ) (d : Command) (x : Part) (y : Left) → is_signal d.kind ≡ false → copy_effect spe (is_put d.kind) x y.spe ≡ part_effect spes spe d x y
part-copied spes spe d x y h = rw h refl

pub part-sent : (spes spe k : ℕ) (memory : MainMemory) (P K : Spe) (d : Command) (x : Element) (sent_is : Delivery) (fixed : Bool) → is_signal d.kind ≡ true → IsSignal x → k < parts_in x → K.store ≡ P.store
    → ((Q : Spe) → Q.store ≡ P.store → sent_is ≡ delivery Q (part_in x 0)) → fixed ≡ fixes (moved_part memory K d.kind (part_in x k)).spe
    → record { fetch = nowhere; reads = in_store spe x.ls 4; writes = nowhere; note = told_delivery spes (Some sent_is); fixed = fixed } ≡ part_effect spes spe d (part_in x k) (moved_part memory K d.kind (part_in x k))
unfolding sent
part-sent spes spe k memory P K d x sent_is fixed kind is less store sends fixed_is =
    let first : k ≡ 0 = signal-first x k is less in
    let part : part_in x k ≡ record { ls = x.ls; ea = x.ea; len = 4 } = ap (part_in x) first ∙ signal-part x is in
    let value : sent_is ≡ delivery K (part_in x k) = sends K store ∙ ap (λ j. delivery K (part_in x j)) (sym first) in
    let at : x.ls ≡ (part_in x k).ls = ap (λ (y : Part). y.ls) (sym part) in
    on (is_signal d.kind) kind at value fixed_is
  where
    Y : Bool → Left
    Y b = if b then sent memory K (part_in x k) else copied memory K (is_put d.kind) (part_in x k)

    on : (b : Bool) → b ≡ true → x.ls ≡ (part_in x k).ls → sent_is ≡ delivery K (part_in x k) → fixed ≡ fixes (Y b).spe
        → record { fetch = nowhere; reads = in_store spe x.ls 4; writes = nowhere; note = told_delivery spes (Some sent_is); fixed = fixed }
        ≡ (if b then signal_effect spes spe (part_in x k) (Y b) else copy_effect spe (is_put d.kind) (part_in x k) (Y b).spe)
    on true h at value fixed_is = looks_same (in_store spe x.ls 4) (in_store spe (part_in x k).ls 4) (told_delivery spes (Some sent_is)) (told_delivery spes (Some (delivery K (part_in x k)))) fixed (fixes K) (ap (λ n. in_store spe n 4) at) (ap (λ v. told_delivery spes (Some v)) value) fixed_is
    on false h at value fixed_is = absurd (true≢false (sym h))

-- ---- elements

pub elem-none : (lines spe : ℕ) (P : Spe) (c : ℕ) → may_elem P c ≡ false → None ≡ option_and_then (λ Q. of_command P c (λ d. Some (elem_effect lines spe c P Q d))) (elem lines P c)
elem-none lines spe P c off = ap (option_and_then (λ Q. of_command P c (λ d. Some (elem_effect lines spe c P Q d)))) (sym (elem-off lines P c off))

elem-some : (lines spe : ℕ) (P : Spe) (c : ℕ) (d : Command) → may_elem P c ≡ true → slice_get P.moves.issued c ≡ Some d
    → Some (elem_effect lines spe c P (after_element P c d (next_element lines P c d)) d) ≡ option_and_then (λ Q. of_command P c (λ e. Some (elem_effect lines spe c P Q e))) (elem lines P c)
elem-some lines spe P c d may at = rw (elem-on lines P c d may at, at) refl

pub read-effect : (lines spe : ℕ) (P : Spe) (c at : ℕ) (d : Command) (x : Element) (reads : Span) (note : Note) (fixed : Bool) → may_elem P c ≡ true → slice_get P.moves.issued c ≡ Some d
    → next_element lines P c d ≡ Ok x → at ≡ next_at P.moves c d → reads ≡ in_store spe at 8 → note ≡ Reading x.number (parts_in x) x.flagged → fixed ≡ is_fixed P.tags (with_read P.moves c x)
    → Some (looks reads note fixed) ≡ option_and_then (λ Q. of_command P c (λ e. Some (elem_effect lines spe c P Q e))) (elem lines P c)
read-effect lines spe P c at d x reads note fixed may got is at_is reads_is note_is fixed_is =
    let r = next_element lines P c d in
    ap Some (looks_same reads _ note _ fixed _ (reads_is ∙ ap (λ n. in_store spe n 8) at_is)
    (note_is ∙ ap (told_element P (after_element P c d r)) (sym is))
    (fixed_is ∙ sym (notified-fixes (record P { moves = with_read P.moves c x }) c d) ∙ ap (λ y. fixes (after_element P c d y)) (sym is)))
    ∙ elem-some lines spe P c d may got

faulted-told : (b : Bool) → (if b then Ended else Nothing) ≡ (if b && not false then Ended else Nothing)
faulted-told true = refl
faulted-told false = refl

pub fault-effect : (lines spe : ℕ) (P : Spe) (c at : ℕ) (d : Command) (kind : Fault) (reads : Span) (note : Note) (fixed : Bool) → may_elem P c ≡ true → slice_get P.moves.issued c ≡ Some d
    → next_element lines P c d ≡ Err kind → at ≡ next_at P.moves c d → reads ≡ in_store spe at 8 → note ≡ (if is_running P.status then Ended else Nothing) → fixed ≡ fixes P
    → Some (looks reads note fixed) ≡ option_and_then (λ Q. of_command P c (λ e. Some (elem_effect lines spe c P Q e))) (elem lines P c)
fault-effect lines spe P c at d kind reads note fixed may got is at_is reads_is note_is fixed_is =
    ap Some (looks_same reads _ note _ fixed _ (reads_is ∙ ap (λ n. in_store spe n 8) at_is)
    (note_is ∙ faulted-told (is_running P.status) ∙ ap (λ r. told_element P (after_element P c d r) r) (sym is))
    (fixed_is ∙ ap (λ y. fixes (after_element P c d y)) (sym is)))
    ∙ elem-some lines spe P c d may got

-- ---- retirements

pub retire-none : (P : Spe) (c : ℕ) → may_retire P c ≡ false → None ≡ option_map plain_effect (retire P c)
retire-none P c off = ap (option_map plain_effect) (sym (retire-off P c off))

pub retire-effect : (P : Spe) (c : ℕ) (reads : Span) (fixed : Bool) → may_retire P c ≡ true → reads ≡ nowhere → fixed ≡ is_fixed P.tags (with_retired P.moves c)
    → Some (looks reads Nothing fixed) ≡ option_map plain_effect (retire P c)
retire-effect P c reads fixed may reads_is fixed_is =
    ap Some (looks_same reads _ Nothing _ fixed _ reads_is refl fixed_is) ∙ ap (option_map plain_effect) (sym (retire-on P c may))

-- ---- atomic commands

moved-fixes : (memory : MainMemory) (P : Spe) (a : AtomicOp) (f : Fate) → fixes (moved memory P a f).spe ≡ fixes P
moved-fixes memory P a Got = copied-fixes memory P false (line_part a)
moved-fixes memory P a Stored = copied-fixes memory P true (line_part a)
moved-fixes memory P a Lost = refl

pub atomic-fixes : (memory : MainMemory) (P : Spe) (a : AtomicOp) → fixes (after_atomic memory P a).spe ≡ fixes P
atomic-fixes memory P a = moved-fixes memory (answered memory P a) a (fate memory P a)

pub atomic-some : (memory : MainMemory) (spe : ℕ) (P : Spe) (a : AtomicOp) → is_faulted P.status ≡ false → P.channels.slot ≡ Some a
    → Some (line_effect spe a (after_atomic memory P a).spe (fate memory P a)) ≡ option_and_then (λ x. option_map (λ b. line_effect spe b x.spe (fate memory P b)) P.channels.slot) (atomic memory P)
atomic-some memory spe P a sound at = rw (atomic-is memory P a sound at, at) refl

pub line-stored : (spe : ℕ) (memory : MainMemory) (P Q : Spe) (a : AtomicOp) → a.kind ≡ PutCond → holds memory P a.line ≡ true → copy_effect spe true (line_part a) Q ≡ line_effect spe a Q (fate memory P a)
line-stored spe memory P Q a kind held = rw (kind, held) refl

pub line-lost : (spe : ℕ) (memory : MainMemory) (P Q : Spe) (a : AtomicOp) (reads : Span) (fixed : Bool) → a.kind ≡ PutCond → holds memory P a.line ≡ false → reads ≡ in_memory (128 * a.line) 128 → fixed ≡ fixes Q
    → looks reads Nothing fixed ≡ line_effect spe a Q (fate memory P a)
line-lost spe memory P Q a reads fixed kind held reads_is fixed_is = rw (kind, held) (looks_same reads _ Nothing _ fixed _ reads_is refl fixed_is)

-- ---- the host

then_some : {X Y Z : Type 0} (f : X → Y) (o : Option X) (z : Z) → is_some (option_map f o) ≡ true → Some z ≡ option_map (λ x. z) o
then_some f None z h = absurd (true≢false (sym h))
then_some f (Some x) z h = refl

pub host-none : (M : State) → is_some (host M) ≡ false → None ≡ effect_of M Host
unfolding host effect_of
host-none M off = on (slice_get M.host.script M.host.done) off
  where
    on : (o : Option HostAction) → is_some (option_and_then (λ a. option_map after_action (acted M a)) o) ≡ false → None ≡ option_and_then (λ a. option_map (λ d. host_effect a) (acted M a)) o
    on None h = refl
    on (Some a) h = lacks (acted M a) h
      where
        lacks : (o : Option Acted) → is_some (option_map after_action o) ≡ false → None ≡ option_map (λ d. host_effect a) o
        lacks None h = refl
        lacks (Some d) h = absurd (true≢false h)

pub host-ended : (M : State) → slice_get M.host.script M.host.done ≡ None → None ≡ effect_of M Host
unfolding effect_of
host-ended M none = rw none refl

-- an effect that only writes
abbrev puts : Span → Span → Span → Note → Effect
puts fetch reads writes note = record { fetch = fetch; reads = reads; writes = writes; note = note; fixed = false }

puts_same : (a b c d e f : Span) (n o : Note) → a ≡ b → c ≡ d → e ≡ f → n ≡ o → puts a c e n ≡ puts b d f o
puts_same a b c d e f n o g h k l = rw (g, h, k, l) refl

pub host-some : (M : State) (a : HostAction) (fetch reads writes : Span) (note : Note) → is_some (host M) ≡ true → slice_get M.host.script M.host.done ≡ Some a
    → fetch ≡ nowhere → reads ≡ nowhere → writes ≡ host_writes a → note ≡ host_tells a → Some (puts fetch reads writes note) ≡ effect_of M Host
unfolding host effect_of
host-some M a fetch reads writes note on at fetch_is reads_is writes_is note_is =
    let allowed : is_some (option_map after_action (acted M a)) ≡ true = ap (λ o. is_some (option_and_then (λ b. option_map after_action (acted M b)) o)) (sym at) ∙ on in
    ap Some (puts_same fetch _ reads _ writes _ note _ fetch_is reads_is writes_is note_is)
    ∙ then_some after_action (acted M a) (host_effect a) allowed ∙ ap (option_and_then (λ b. option_map (λ d. host_effect b) (acted M b))) (sym at)

-- ---- the processor of a step

pub effect-at : {memory : SharedMemory} {host_is : Progress} (processors : List Processor) (M : State) (p : ℕ) (x : Processor) (r : Option Effect) (f : Spe → Option Effect) → Shows processors memory host_is M → p < length processors
    → x ≡ slice_index_or processors p x → ((P : Spe) → slice_get M.spes p ≡ Some P → ShowsSpe x P → r ≡ f P) → r ≡ of_spe M p f
effect-at processors M p x r f shows h at is =
    let two = two_at ShowsSpe processors M.spes p x shows.spes h in
    is two.0 two.1 (subst (λ y. ShowsSpe y two.0) (sym at) two.2) ∙ ap (option_and_then f) (sym two.1)

pub effect-absent : {memory : SharedMemory} {host_is : Progress} (processors : List Processor) (M : State) (p : ℕ) (f : Spe → Option Effect) → Shows processors memory host_is M → length processors ≤ p → None ≡ of_spe M p f
effect-absent processors M p f shows h = ap (option_and_then f) (sym (two_none ShowsSpe processors M.spes p shows.spes h))
