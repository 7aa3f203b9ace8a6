-- On a run of a machine a PUTLLC stores exactly where its line is reserved.
use Rattle.std.proofs.Common.{◌≡◌, ℕ, zero, suc, ◌+◌, ◌-◌, ◌*◌, ◌/◌, ◌<◌, ◌≤◌, ◌==◌, Bool, true, false, List, [], ◌∷◌, ◌++◌, map, take, drop, length, slice_set, slice_index_or, arith, refl, sym, ◌∙◌, ap, subst, true≢false, length-append}
use Rattle.std.specs.Prelude.{Option, Some, None, IfSome, All, slice_get, slice_range, cond, option_map, option_and_then}
use Rattle.std.specs.List.{enumerate_from}
use Rattle.std.proofs.lemmas.Bool.Decides.{nat_tests}
use Rattle.std.proofs.lemmas.List.{length-set, length-take, length-take-le, length-drop, length-replicate}
use Rattle.std.proofs.lemmas.Option.{slice_get_within, slice_get-get_or, get_or_from_slice_get}
use Rattle.cell_base.specs.Bytes.{put, zeros}
use Rattle.cell_base.specs.declared.steps.Step.{Step}
use Rattle.cell_base.specs.declared.steps.Step.TheVariants.{Exec, Piece, Elem, Retire, Atomic, Host}
use Rattle.cell_host.specs.declared.HostAction.{HostAction}
use Rattle.cell_host.specs.declared.HostAction.TheVariants.{Send, Take, TakeIntr, Store, Await, Signal as SignalTo}
use Rattle.cell_host.specs.Script.{Progress, advanced}
use Rattle.mfc_command.specs.declared.command.AtomicOp.{AtomicOp}
use Rattle.mfc_command.specs.declared.command.Kind.{Kind}
use Rattle.mfc_command.specs.declared.command.Kind.TheVariants.{Put, Get, PutList, GetList, Barrier, PutQueued, Signal}
use Rattle.mfc_command.specs.declared.command.AtomicKind.{AtomicKind}
use Rattle.mfc_command.specs.declared.command.AtomicKind.TheVariants.{GetLine, PutCond, PutLine}
use Rattle.mfc_command.specs.declared.command.Order.TheVariants.{Atomic as AtomicOrder}
use Rattle.mfc_command.specs.declared.range.Part.{Part}
use Rattle.mfc_command.specs.Check.{OrderFits}
use Rattle.mfc_lists.specs.declared.Element.{Element}
use Rattle.mfc_lists.specs.Elements.{ElementFits}
use Rattle.lock_lines.specs.Versions.{Reserved, version_of, raised}
use Rattle.cell_machine.specs.declared.memory.SharedMemory.{SharedMemory}
use Rattle.cell_machine.specs.declared.processor.Processor.{Processor}
use Rattle.cell_machine.specs.Spe.{Spe}
use Rattle.cell_machine.specs.State.{State}
use Rattle.cell_machine.specs.Memory.{MainMemory, stored, lines_of}
use Rattle.cell_machine.specs.Moves.{present, parts_in}
use Rattle.cell_machine.specs.Tags.{settled}
use Rattle.cell_machine.specs.Exec.{exec}
use Rattle.cell_machine.specs.Transfers.{Left, copied, sent, moved as moved_part, is_put, part_in, piece, piece_of, after_part, has_part, may_piece, elem, retire}
use Rattle.cell_machine.specs.Atomic.{Fate, fate, reserved_after, answered, moved, line_part, after_atomic, may_atomic, atomic}
use Rattle.cell_machine.specs.Hosts.{given, at_spe, acted, after_action, host as host_step}
use Rattle.cell_machine.specs.Next.{act, act_in, own, next, left, with_left, ended_by, closed_in}
use Rattle.cell_machine.specs.Opening.{Opening, InMemory, opening, opening_spe, filled}
use Rattle.cell_machine.specs.Limits.{IsOpening, FitsAction, FitsMemory}
use Rattle.cell_machine.specs.Run.{Ran, replay}
use Rattle.cell_machine.specs.Shows.{IsBounded, AreBounded, IsMachine}
use Rattle.cell_machine.specs.Locks.{stored_by_piece, stored_by_fate, stored_by_atomic, stored_by_action, stored_by, AreLocksKept}
use Rattle.cell_machine.proofs.MovesShown.{get-within}
use Rattle.cell_machine.proofs.Same.{some_same, eq_is}
use Rattle.cell_machine.proofs.Elements.{part-is}
use Rattle.cell_machine.proofs.Controllers.{element-fits}
use Rattle.cell_machine.proofs.Alike.{alike-at, closed-alike, left-alike}
use Rattle.cell_machine.proofs.Openings.{length-zeros, opening_bounded}
use Rattle.cell_machine.proofs.Completion.{some-of}
use Rattle.cell_machine.proofs.Bounds.{if_is, if_so, each_of, each_map, Moved, Seen, another, goes, is_at, executes, copies, reads, refuses, retires, locks, acts, passes, map-got, act-seen, act-bounded, act-length}
use Rattle.cell_machine.proofs.LocksKept.{raised_by, raised-own, raised-other, IsPast, IsIn, locked_by, reserved_next, Stepped, StepsAre, locks-kept}

-- ---- the bytes that a step stores

pub put-length : (bytes part : List ℕ) (at : ℕ) → at + length part ≤ length bytes → length (put bytes at part) ≡ length bytes
put-length bytes part at h =
    let outer = length-append (take at bytes) (part ++ drop (at + length part) bytes) in
    let inner = length-append part (drop (at + length part) bytes) in
    let front : length (take at bytes) ≡ at = length-take-le at bytes (omega arith) in
    let back = length-drop (at + length part) bytes in
    omega arith

take-few : (n : ℕ) (xs : List ℕ) → length (take n xs) ≤ n
take-few n xs = let e = length-take n xs in omega arith

pub range-few : (xs : List ℕ) (at len : ℕ) → length (slice_range xs at (at + len)) ≤ len
range-few xs at len = let few = take-few (at + len - at) (drop at xs) in omega arith

-- what a step does to the memory, of so many lines: nothing, or the store of bytes that are there to this line
pub data Touches (lines : ℕ) (m n : MainMemory) (line : Option ℕ) : Type 0 where
  leaves : n ≡ m → line ≡ None → Touches lines m n line
  stores : (at : ℕ) (bytes : List ℕ) → n ≡ stored m at bytes → line ≡ Some (at / 128) → at < 128 * lines → at + length bytes ≤ 128 * lines → Touches lines m n line

-- a part that is copied
part_touches : (lines : ℕ) (m : MainMemory) (P : Spe) (b : Bool) (x : Part) → x.ea < 128 * lines → x.ea + x.len ≤ 128 * lines
    → Touches lines m (copied m P b x).memory (cond b (Some (x.ea / 128)) None)
unfolding copied
part_touches lines m P true x at within = let few = range-few P.store x.ls x.len in stores x.ea (slice_range P.store x.ls (x.ls + x.len)) refl refl at (omega arith)
part_touches lines m P false x at within = leaves refl refl

-- a part that is moved by a command of this kind
kind_touches : (lines : ℕ) (m : MainMemory) (P : Spe) (kind : Kind) (x : Part) → x.ea < 128 * lines → x.ea + x.len ≤ 128 * lines
    → Touches lines m (moved_part m P kind x).memory (cond (is_put kind) (Some (x.ea / 128)) None)
unfolding sent
kind_touches lines m P Put x at within = part_touches lines m P true x at within
kind_touches lines m P Get x at within = part_touches lines m P false x at within
kind_touches lines m P PutList x at within = part_touches lines m P true x at within
kind_touches lines m P GetList x at within = part_touches lines m P false x at within
kind_touches lines m P Barrier x at within = part_touches lines m P false x at within
kind_touches lines m P PutQueued x at within = part_touches lines m P true x at within
kind_touches lines m P Signal x at within = leaves refl refl

-- each part of an element that fits lies in the memory
part-within : (lines : ℕ) (x : Element) (k : ℕ) → ElementFits lines x → k < parts_in x
    → ((part_in x k).ea < 128 * lines) × ((part_in x k).ea + (part_in x k).len ≤ 128 * lines)
part-within lines x k fits h = on (x.size == 0) refl h
  where
    on : (b : Bool) → (x.size == 0) ≡ b → k < cond b 0 ((x.ea + x.size - 1) / 128 - x.ea / 128 + 1)
        → ((part_in x k).ea < 128 * lines) × ((part_in x k).ea + (part_in x k).len ≤ 128 * lines)
    on true e less = absurd (omega arith)
    on false e less =
        let some : 0 < x.size = grind (arith, nat_tests) in
        let there = fits.memory in
        (omega arith, omega arith)

piece_touches : (lines n : ℕ) (m : MainMemory) (P : Spe) (c e k : ℕ) → IsBounded lines n P
    → IfSome (piece m P c e k) (λ x. Touches lines m x.memory (option_and_then (stored_by_piece P.moves c k) (slice_get P.moves.issued c)))
unfolding piece may_piece
piece_touches lines n m P c e k bounded = if_so (may_piece P c e k) _ R (λ may.
    each_of (slice_get P.moves.issued c) _ R (λ d at.
    each_map (present P.moves.read c d) (piece_of m P c k d) R (λ x there.
    let of = part-is P.moves c e k d (passes P c (has_part P.moves c e k) d may at) in
    let same : of.element ≡ x = some_same of.element x (sym of.there ∙ there) in
    let fits = element-fits lines n P c d x bounded at of.moved there in
    let within = part-within lines x k fits (subst (λ y. k < parts_in y) same of.within) in
    rw (at, there) (kind_touches lines m (after_part P c x.number k d) d.kind (part_in x k) within.0 within.1))))
  where
    R : Left → Type 0
    R x = Touches lines m x.memory (option_and_then (stored_by_piece P.moves c k) (slice_get P.moves.issued c))

-- the line of an atomic command
fate_touches : (lines : ℕ) (m : MainMemory) (P : Spe) (a : AtomicOp) (f : Fate) → a.line < lines → Touches lines m (moved m P a f).memory (stored_by_fate f a.line)
fate_touches lines m P a Fate.Got within = part_touches lines m P false (line_part a) (omega arith) (omega arith)
fate_touches lines m P a Fate.Stored within =
    let e : 128 * a.line / 128 ≡ a.line = omega arith in
    subst (λ l. Touches lines m (moved m P a Fate.Stored).memory (Some l)) e (part_touches lines m P true (line_part a) (omega arith) (omega arith))
fate_touches lines m P a Fate.Lost within = leaves refl refl

atomic_touches : (lines n : ℕ) (m : MainMemory) (P : Spe) → IsBounded lines n P → IfSome (atomic m P) (λ x. Touches lines m x.memory (option_and_then (stored_by_atomic m P) P.channels.slot))
unfolding atomic
atomic_touches lines n m P bounded = if_so (may_atomic P) _ R (λ may.
    each_map P.channels.slot (after_atomic m P) R (λ a at.
    let fits = if_is P.channels.slot a (λ b. OrderFits lines (AtomicOrder b)) at bounded.slot in
    rw at (fate_touches lines m (answered m P a) a (fate m P a) fits.1)))
  where
    R : Left → Type 0
    R x = Touches lines m x.memory (option_and_then (stored_by_atomic m P) P.channels.slot)

left_touches : (lines : ℕ) (m : MainMemory) (o : Option Spe) → IfSome (option_map (left m) o) (λ x. Touches lines m x.memory None)
left_touches lines m None = tt
left_touches lines m (Some P) = leaves refl refl

-- what a step does to the memory and to the script
pub record Acts (lines : ℕ) (s : Step) (M N : State) : Type 0 where
  pub touches : Touches lines M.memory N.memory (stored_by M s)
  pub script : N.host.script ≡ M.host.script

-- a step of a processor
in_acts : (lines p : ℕ) (s : Step) (M : State) → ((P : Spe) → slice_get M.spes p ≡ Some P → IfSome (own M.memory s P) (λ x. Touches lines M.memory x.memory (stored_by M s))) → IfSome (act_in M p s) (Acts lines s M)
in_acts lines p s M each =
    each_of (slice_get M.spes p) _ (Acts lines s M) (λ P at.
    each_map (own M.memory s P) (with_left M p) (Acts lines s M) (λ x e.
    record { touches = if_is (own M.memory s P) x (λ y. Touches lines M.memory y.memory (stored_by M s)) e (each P at); script = refl }))

-- an action of the host
done_script : (h : Progress) (o : Option ℕ) → (advanced h o).script ≡ h.script
done_script h None = refl
done_script h (Some value) = refl

given_acts : (lines : ℕ) (M : State) (p : ℕ) (a : HostAction) → stored_by M Host ≡ None → IfSome (option_map after_action (at_spe M p (given a))) (Acts lines Host M)
given_acts lines M p a none =
    each_map (at_spe M p (given a)) after_action (Acts lines Host M) (λ d e.
    if_is (at_spe M p (given a)) d (λ k. Acts lines Host M (after_action k)) e
    (each_of (slice_get M.spes p) _ (λ k. Acts lines Host M (after_action k)) (λ P at.
    each_map (given a P) _ (λ k. Acts lines Host M (after_action k)) (λ g f.
    record { touches = leaves refl none; script = done_script M.host g.took }))))

action_acts : (lines spes : ℕ) (M : State) (a : HostAction) → FitsAction lines spes a → stored_by M Host ≡ stored_by_action a → IfSome (option_map after_action (acted M a)) (Acts lines Host M)
unfolding acted
action_acts lines spes M (Send p value) fits by = given_acts lines M p (Send p value) by
action_acts lines spes M (Take p) fits by = given_acts lines M p (Take p) by
action_acts lines spes M (TakeIntr p) fits by = given_acts lines M p (TakeIntr p) by
action_acts lines spes M (Store ea len bytes) fits by =
    let few = take-few len bytes in
    let some = fits.0 in
    let there = fits.3 in
    record { touches = stores ea (take len bytes) refl by (omega arith) (omega arith); script = refl }
action_acts lines spes M (Await p) fits by = given_acts lines M p (Await p) by
action_acts lines spes M (SignalTo p r value) fits by = given_acts lines M p (SignalTo p r value) by

host_acts : (lines spes : ℕ) (M : State) → All (FitsAction lines spes) M.host.script → IfSome (host_step M) (Acts lines Host M)
unfolding host_step
host_acts lines spes M fits =
    each_of (slice_get M.host.script M.host.done) _ (Acts lines Host M) (λ a at.
    let is : slice_index_or M.host.script M.host.done a ≡ a = get_or_from_slice_get M.host.script M.host.done a a at in
    action_acts lines spes M a
    (subst (FitsAction lines spes) is (fits M.host.done a (slice_get_within M.host.script M.host.done a at)))
    (ap (option_and_then stored_by_action) at))

pub act-acts : (lines n spes : ℕ) (M : State) (s : Step) → AreBounded lines n M.spes → All (FitsAction lines spes) M.host.script → IfSome (act M s) (Acts lines s M)
act-acts lines n spes M (Exec p) bounded fits = in_acts lines p (Exec p) M (λ P at. left_touches lines M.memory (exec (lines_of M.memory) P))
act-acts lines n spes M (Piece p c e k) bounded fits = in_acts lines p (Piece p c e k) M (λ P at. rw at (piece_touches lines n M.memory P c e k (bounded p P at)))
act-acts lines n spes M (Elem p c) bounded fits = in_acts lines p (Elem p c) M (λ P at. left_touches lines M.memory (elem (lines_of M.memory) P c))
act-acts lines n spes M (Retire p c) bounded fits = in_acts lines p (Retire p c) M (λ P at. left_touches lines M.memory (retire P c))
act-acts lines n spes M (Atomic p) bounded fits = in_acts lines p (Atomic p) M (λ P at. rw at (atomic_touches lines n M.memory P (bounded p P at)))
act-acts lines n spes M Host bounded fits = host_acts lines spes M fits

-- ---- what holds of every state of a run

record Holds (S : Opening) (M : State) : Type 0 where
  long : length M.memory.bytes ≡ 128 * S.lines
  versions : length M.memory.versions ≡ S.lines
  issued : ℕ  -- so many commands of each processor at most
  bounded : AreBounded S.lines issued M.spes
  fits : All (FitsAction S.lines (length S.entries)) M.host.script
  past : (p : ℕ) (P : Spe) → slice_get M.spes p ≡ Some P → IsPast M.memory.versions P.reserved

pub touched-long : (lines : ℕ) (m n : MainMemory) (line : Option ℕ) → Touches lines m n line → length m.bytes ≡ 128 * lines → length n.bytes ≡ 128 * lines
unfolding stored
touched-long lines m n line (leaves same none) long = ap (λ (k : MainMemory). length k.bytes) same ∙ long
touched-long lines m n line (stores at bytes same one low within) long =
    ap (λ (k : MainMemory). length k.bytes) same ∙ put-length m.bytes bytes at (subst (λ k. at + length bytes ≤ k) (sym long) within) ∙ long

touched_versions : (lines : ℕ) (m n : MainMemory) (line : Option ℕ) → Touches lines m n line → n.versions ≡ raised_by m.versions line
unfolding stored
touched_versions lines m n line (leaves same none) = ap (λ (k : MainMemory). k.versions) same ∙ ap (raised_by m.versions) (sym none)
touched_versions lines m n line (stores at bytes same one low within) = ap (λ (k : MainMemory). k.versions) same ∙ ap (raised_by m.versions) (sym one)

touched_inside : (lines : ℕ) (m n : MainMemory) (line : Option ℕ) → Touches lines m n line → length m.versions ≡ lines → IsIn m.versions line
touched_inside lines m n line (leaves same none) count l is = absurd (let e : None ≡ Some l = sym none ∙ is in cc)
touched_inside lines m n line (stores at bytes same one low within) count l is =
    let e : at / 128 ≡ l = some_same (at / 128) l (sym one ∙ is) in
    omega arith

raised_count : (versions : List ℕ) (o : Option ℕ) → length (raised_by versions o) ≡ length versions
raised_count versions None = refl
raised_count versions (Some line) = length-set versions line (version_of versions line + 1)

-- ---- what a step leaves of what is reserved

lines-are : (S : Opening) (M : State) → Holds S M → lines_of M.memory ≡ S.lines
lines-are S M holds = let long = holds.long in omega arith

-- after an atomic command
moved_reserved : (m : MainMemory) (P : Spe) (a : AtomicOp) (f : Fate) → (moved m P a f).spe.reserved ≡ P.reserved
unfolding copied
moved_reserved m P a Fate.Got = refl
moved_reserved m P a Fate.Stored = refl
moved_reserved m P a Fate.Lost = refl

set_is : {X : Type 0} (xs : List X) (p : ℕ) (y x : X) → slice_get (slice_set xs p y) p ≡ Some x → y ≡ x
set_is [] p y x h = absurd (cc)
set_is (z ∷ xs) zero y x h = cc
set_is (z ∷ xs) (suc p) y x h = set_is xs p y x h

atomic_reserved : (M : State) (p : ℕ) (P : Spe) → slice_get M.spes p ≡ Some P
    → IfSome (act M (Atomic p)) (λ N. (Q : Spe) → slice_get ((closed_in M (Atomic p) N).spes) p ≡ Some Q → Q.reserved ≡ locked_by M.memory.versions P P.channels.slot)
unfolding atomic
atomic_reserved M p P at =
    rw at (if_map_so (atomic M.memory P) (with_left M p) R (if_so (may_atomic P) _ (λ x. R (with_left M p x)) (λ may.
    each_map P.channels.slot (after_atomic M.memory P) (λ x. R (with_left M p x)) (λ a slot Q got.
    let x = after_atomic M.memory P a in
    let base = slice_set M.spes p x.spe in
    let was = alike-at (closed_in M (Atomic p) (with_left M p x)).spes (map settled base) p Q (sym (closed-alike M (Atomic p) (with_left M p x) base (left-alike M p x))) got in
    let one = map-got settled base p was.0 was.1 in
    let same : (after_atomic M.memory P a).spe ≡ one.0 = set_is M.spes p (after_atomic M.memory P a).spe one.0 one.1 in
    ap (λ (x : Spe). x.reserved) was.2 ∙ ap (λ (x : Spe). x.reserved) (sym one.2) ∙ ap (λ (x : Spe). x.reserved) (sym same)
    ∙ moved_reserved M.memory (answered M.memory P a) a (fate M.memory P a) ∙ ap (locked_by M.memory.versions P) (sym slot)))))
  where
    R : State → Type 0
    R N = (Q : Spe) → slice_get ((closed_in M (Atomic p) N).spes) p ≡ Some Q → Q.reserved ≡ locked_by M.memory.versions P P.channels.slot

    if_map_so : (o : Option Left) (f : Left → State) (T : State → Type 0) → IfSome o (λ x. T (f x)) → IfSome (option_map f o) T
    if_map_so None f T h = tt
    if_map_so (Some x) f T h = h

-- by a step of another, and by its own
other-next : (versions : List ℕ) (s : Step) (p : ℕ) (P : Spe) → is_at p s ≡ false → reserved_next versions s p P ≡ P.reserved
other-next versions (Exec q) p P h = refl
other-next versions (Piece q c e k) p P h = refl
other-next versions (Elem q c) p P h = refl
other-next versions (Retire q c) p P h = refl
other-next versions (Atomic q) p P h = rw h refl
other-next versions Host p P h = refl

own-next : (versions : List ℕ) (p : ℕ) (P : Spe) → reserved_next versions (Atomic p) p P ≡ locked_by versions P P.channels.slot
own-next versions p P = let same : (p == p) ≡ true = grind (arith, nat_tests) in rw same refl

seen-reserved : (M : State) (s : Step) (K : State) (p : ℕ) (P Q : Spe) → act M s ≡ Some K → slice_get M.spes p ≡ Some P → slice_get (closed_in M s K).spes p ≡ Some Q
    → Seen (lines_of M.memory) s p P Q → Q.reserved ≡ reserved_next M.memory.versions s p P
seen-reserved M s K p P Q e at got (another other moves status same) = same ∙ sym (other-next M.memory.versions s p P other)
seen-reserved M s K p P Q e at got (goes g) = on s e got g.moved g.reserved
  where
    on : (t : Step) → act M t ≡ Some K → slice_get (closed_in M t K).spes p ≡ Some Q → Moved (lines_of M.memory) t p P Q → ((t ≡ Atomic p → ⊥) → Q.reserved ≡ P.reserved) → Q.reserved ≡ reserved_next M.memory.versions t p P
    on (Exec q) f h m stays = stays (λ a. cc)
    on (Piece q c d k) f h m stays = stays (λ a. cc)
    on (Elem q c) f h m stays = stays (λ a. cc)
    on (Retire q c) f h m stays = stays (λ a. cc)
    on Host f h m stays = stays (λ a. cc)
    on (Atomic q) f h (locks of same) stays =
        let own : q ≡ p = cc in
        let own_act : act M (Atomic p) ≡ Some K = subst (λ i. act M (Atomic i) ≡ Some K) own f in
        let own_got : slice_get (closed_in M (Atomic p) K).spes p ≡ Some Q = subst (λ i. slice_get (closed_in M (Atomic i) K).spes p ≡ Some Q) own h in
        subst (λ i. Q.reserved ≡ reserved_next M.memory.versions (Atomic i) p P) (sym own)
        (if_is (act M (Atomic p)) K (λ N. (R : Spe) → slice_get ((closed_in M (Atomic p) N).spes) p ≡ Some R → R.reserved ≡ locked_by M.memory.versions P P.channels.slot) own_act (atomic_reserved M p P at) Q own_got
        ∙ sym (own-next M.memory.versions p P))
    on (Atomic q) f h (executes of d) stays = absurd (cc)
    on (Atomic q) f h (copies c b k d of there has same) stays = absurd (cc)
    on (Atomic q) f h (reads c d x of there has is same) stays = absurd (cc)
    on (Atomic q) f h (refuses c of fault same) stays = absurd (cc)
    on (Atomic q) f h (retires c d of there is same) stays = absurd (cc)
    on (Atomic q) f h (acts of same) stays = absurd (cc)

-- ---- one step of a run

pub map-is : {X Y : Type 0} (f : X → Y) (o : Option X) (y : Y) → option_map f o ≡ Some y → (x : X) × (o ≡ Some x) × (f x ≡ y)
map-is f None y h = absurd (cc)
map-is f (Some x) y h = (x, refl, (cc))

step_acts : (S : Opening) (M : State) (s : Step) (K : State) → Holds S M → act M s ≡ Some K → Acts S.lines s M K
step_acts S M s K holds e = if_is (act M s) K (Acts S.lines s M) e (act-acts S.lines holds.issued (length S.entries) M s holds.bounded holds.fits)

act-stepped : (S : Opening) (M : State) (s : Step) (K : State) (p : ℕ) (Q : Spe) → Holds S M → act M s ≡ Some K → slice_get (closed_in M s K).spes p ≡ Some Q
    → (P : Spe) × (slice_get M.spes p ≡ Some P) × Stepped M s (ended_by M s K) p P Q
act-stepped S M s K p Q holds e got =
    let within : p < length M.spes = let w = get-within (closed_in M s K).spes p Q got in let c = act-length M s K e in omega arith in
    let P : Spe = slice_index_or M.spes p Q in
    let at : slice_get M.spes p ≡ Some P = slice_get-get_or M.spes p Q within in
    let seen = act-seen M s K p P e at in
    let same : seen.0 ≡ Q = some_same seen.0 Q (sym seen.1 ∙ got) in
    let does = (step_acts S M s K holds e).touches in (
      P,
      at,
      record {
        versions = touched_versions S.lines M.memory K.memory (stored_by M s) does;
        reserved = seen-reserved M s K p P Q e at got (subst (Seen (lines_of M.memory) s p P) same seen.2);
        inside = touched_inside S.lines M.memory K.memory (stored_by M s) does holds.versions;
        past = holds.past p P at;
      },
    )

-- a version never sinks, and what is reserved now is at its line's version
grows : (versions : List ℕ) (o : Option ℕ) (line : ℕ) → IsIn versions o → version_of versions line ≤ version_of (raised_by versions o) line
grows versions None line inside = omega arith
grows versions (Some l) line inside = on (l == line) refl
  where
    on : (b : Bool) → (l == line) ≡ b → version_of versions line ≤ version_of (raised versions l) line
    on true e = let up = raised-own versions (Some l) line inside (ap Some (eq_is l line e)) in omega arith
    on false e = let same = raised-other versions (Some l) line (λ f. true≢false (sym (grind (arith, nat_tests)) ∙ e)) in omega arith

grown-past : (versions : List ℕ) (o : Option ℕ) (was : Option Reserved) → IsIn versions o → IsPast versions was → IsPast (raised_by versions o) was
grown-past versions o was inside past r e = let old = past r e in let up = grows versions o r.line inside in omega arith

locked-past : (versions : List ℕ) (P : Spe) (o : Option AtomicOp) → IsPast versions P.reserved → IsPast versions (locked_by versions P o)
locked-past versions P None past = past
locked-past versions P (Some a) past = on a.kind
  where
    now : Reserved
    now = record { line = a.line; version = version_of versions a.line }

    on : (k : AtomicKind) → IsPast versions (reserved_after k now P.reserved)
    on GetLine r e = let same : now ≡ r = cc in subst (λ (x : Reserved). x.version ≤ version_of versions x.line) same (omega arith)
    on PutCond r e = absurd (cc)
    on PutLine r e = past r e

next-past : (versions : List ℕ) (s : Step) (p : ℕ) (P : Spe) → IsPast versions P.reserved → IsPast versions (reserved_next versions s p P)
next-past versions (Exec q) p P past = past
next-past versions (Piece q c e k) p P past = past
next-past versions (Elem q c) p P past = past
next-past versions (Retire q c) p P past = past
next-past versions Host p P past = past
next-past versions (Atomic q) p P past = on (q == p)
  where
    on : (b : Bool) → IsPast versions (cond b (locked_by versions P P.channels.slot) P.reserved)
    on true = locked-past versions P P.channels.slot past
    on false = past

stepped-past : (M : State) (s : Step) (N : State) (p : ℕ) (P Q : Spe) → Stepped M s N p P Q → IsPast N.memory.versions Q.reserved
stepped-past M s N p P Q step =
    subst (λ v. IsPast v Q.reserved) (sym step.versions) (subst (IsPast (raised_by M.memory.versions (stored_by M s))) (sym step.reserved)
    (grown-past M.memory.versions (stored_by M s) (reserved_next M.memory.versions s p P) step.inside (next-past M.memory.versions s p P step.past)))

next-holds : (S : Opening) (M : State) (s : Step) (N : State) → Holds S M → next M s ≡ Some N → Holds S N
next-holds S M s N holds e =
    let K = map-is (ended_by M s) (act M s) N e in
    let does = step_acts S M s K.0 holds K.1 in
    subst (Holds S) K.2 (record {
      long = touched-long S.lines M.memory K.0.memory (stored_by M s) does.touches holds.long;
      versions = ap length (touched_versions S.lines M.memory K.0.memory (stored_by M s) does.touches) ∙ raised_count M.memory.versions (stored_by M s) ∙ holds.versions;
      issued = holds.issued + 1;
      bounded = act-bounded M s K.0 S.lines holds.issued (lines-are S M holds) K.1 holds.bounded;
      fits = subst (All (FitsAction S.lines (length S.entries))) (sym does.script) holds.fits;
      past = λ p Q at. let was = act-stepped S M s K.0 p Q holds K.1 at in stepped-past M s (ended_by M s K.0) p was.0 Q was.2;
    })

-- ---- a run

pub fill-length : (n : ℕ) (memory : List ℕ) (pieces : List InMemory) → length memory ≡ 128 * n → All (FitsMemory n) pieces → length (filled memory pieces) ≡ 128 * n
fill-length n memory [] long fits = long
fill-length n memory (x ∷ pieces) long fits =
    let within : x.at + length x.bytes ≤ 128 * n = fits 0 x (omega arith) in
    fill-length n (put memory x.at x.bytes) pieces (put-length memory x.bytes x.at (omega arith) ∙ long) (λ i d less. fits (suc i) d (omega arith))

opening-none : (S : Opening) (p : ℕ) (P : Spe) → slice_get (opening S).spes p ≡ Some P → P.reserved ≡ None
unfolding opening
opening-none S p P at = let g = map-got (opening_spe S) (enumerate_from 0 S.entries) p P at in ap (λ (Q : Spe). Q.reserved) (sym g.2)

opening-holds : (S : Opening) → IsOpening S → Holds S (opening S)
unfolding opening
opening-holds S is = record {
  long = fill-length S.lines (zeros (128 * S.lines)) S.memory (length-zeros (128 * S.lines)) is.memory;
  versions = length-replicate S.lines 0;
  issued = 0;
  bounded = opening_bounded S is.limits.0;
  fits = is.actions;
  past = λ p P at r e. absurd (let f : None ≡ Some r = sym (opening-none S p P at) ∙ e in cc);
}

run-holds : (S : Opening) (M : State) (steps : List Step) (N : State) → Holds S M → replay M steps ≡ Some N → Holds S N
run-holds S M [] N holds e = let same : M ≡ N = cc in subst (Holds S) same holds
run-holds S M (s ∷ steps) N holds e =
    let first = some-of (λ K. replay K steps) (next M s) N e in
    run-holds S first.0 steps N (next-holds S M s first.0 holds first.1) first.2

run-steps : (S : Opening) (steps : List Step) → IsOpening S → StepsAre (record { setup = S; steps = steps })
run-steps S steps is = record {
  steps = λ before s M N p Q run e at.
      let K = map-is (ended_by M s) (act M s) N e in
      let was = act-stepped S M s K.0 p Q (run-holds S (opening S) before M (opening-holds S is) run) K.1 (subst (λ (L : State). slice_get L.spes p ≡ Some Q) (sym K.2) at) in
      (was.0, was.1, subst (λ L. Stepped M s L p was.0 Q) K.2 was.2);
  starts = opening-none S;
}

pub machine-locks_kept : (setup : Opening) (steps : List Step) (capacity : ℕ) (processors : List Processor) (memory : SharedMemory) (host : Progress) (m : Ran)
    → IsMachine setup steps capacity processors memory host → record { setup = setup; steps = steps } ≡ m → AreLocksKept m
machine-locks_kept setup steps capacity processors memory host m is view = subst AreLocksKept view (locks-kept (record { setup = setup; steps = steps }) (run-steps setup steps is.setup_is))
