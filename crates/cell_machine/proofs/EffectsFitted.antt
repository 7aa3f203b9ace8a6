-- A step's spans lie in their places, it writes as many bytes as it says, and each byte after it is one that it wrote or the one that stood there.
use Rattle.std.proofs.Common.{◌≡◌, ◌≢◌, ℕ, ◌+◌, ◌-◌, ◌*◌, ◌/◌, ◌<◌, ◌≤◌, ◌==◌, refl, sym, ◌∙◌, ap, subst, arith, List, [], length, length-take, true≢false}
use Rattle.std.specs.Prelude.{Option, Some, None, IfSome, slice_get, slice_index, option_map, option_and_then, Bool, true, false, cond, nat_lt, nat_le, ◌&&◌, All}
use Rattle.std.specs.Option.{option_map_or}
use Rattle.std.proofs.lemmas.Bool.Decides.{nat_tests}
use Rattle.std.proofs.lemmas.List.Elements.{All-get_or}
use Rattle.std.proofs.lemmas.Option.{slice_get_within, slice_get-get_or, get_or_from_slice_get}
use Rattle.cell_base.specs.Bytes.{put}
use Rattle.cell_base.specs.declared.steps.Step.{Step}
use Rattle.cell_base.specs.declared.steps.Step.TheVariants.{Exec, Piece, Elem, Retire, Atomic, Host}
use Rattle.cell_host.specs.declared.HostAction.{HostAction}
use Rattle.cell_host.specs.declared.HostAction.TheVariants.{Send, Take as TakeOut, TakeIntr, Store, Await, Signal as SignalTo}
use Rattle.spu_decode.specs.declared.Instr.{Instr}
use Rattle.spu_decode.proofs.DecodeLemmas.{instr_of-FieldsFit}
use Rattle.spu_regs.specs.Registers.{register}
use Rattle.spu_exec.specs.Places.{IsPlace}
use Rattle.local_store.specs.Store.{word_at}
use Rattle.mfc_command.specs.declared.command.Command.{Command}
use Rattle.mfc_command.specs.declared.command.AtomicOp.{AtomicOp}
use Rattle.mfc_command.specs.declared.command.Kind.{Kind}
use Rattle.mfc_command.specs.declared.command.Kind.TheVariants.{Put, Get, PutList, GetList, Barrier, PutQueued, Signal}
use Rattle.mfc_command.specs.declared.command.Order.TheVariants.{Atomic as AtomicOrder}
use Rattle.mfc_command.specs.declared.range.Part.{Part}
use Rattle.mfc_command.specs.Check.{KindFits, OrderFits}
use Rattle.mfc_command.specs.Order.{is_list}
use Rattle.mfc_lists.specs.declared.Element.{Element}
use Rattle.mfc_lists.specs.Elements.{ElementFits}
use Rattle.cell_machine.specs.declared.effect.Place.{Place}
use Rattle.cell_machine.specs.declared.effect.Place.TheVariants.{Memory, Local}
use Rattle.cell_machine.specs.declared.effect.Effect.{Effect}
use Rattle.cell_machine.specs.Spe.{Spe}
use Rattle.cell_machine.specs.State.{State}
use Rattle.cell_machine.specs.Memory.{MainMemory}
use Rattle.cell_machine.specs.Moves.{read_of, elements_in, elements_of, parts_in}
use Rattle.cell_machine.specs.Shows.{IsBounded, IsSignal}
use Rattle.cell_machine.specs.Limits.{FitsAction}
use Rattle.cell_machine.specs.Transfers.{may_piece, may_elem, has_part, has_element, is_put, is_signal, part_in, piece_of, next_at, Left}
use Rattle.cell_machine.specs.Atomic.{Fate, Got, Stored, Lost, after_atomic, fate, line_part}
use Rattle.cell_machine.specs.Hosts.{acted}
use Rattle.cell_machine.specs.Next.{own}
use Rattle.cell_machine.specs.Effects.{effect_of, host_effect, instr, loads_at, stores_at, exec_effect, copy_effect, part_effect, signal_effect, line_effect, quad_in, host_writes}
use Rattle.cell_machine.specs.EffectLaws.{bytes_of, new_bytes, new_of, same_place, maker}
use Rattle.cell_machine.specs.Written.{Given, Copy, stored_by, host_bytes, line_written, piece_written, written_by}
use Rattle.cell_machine.specs.Sound.{AreFew, IsWhole, IsSound, EachByte, EffectsFit}
use Rattle.cell_machine.proofs.Same.{some_same}
use Rattle.cell_machine.proofs.Elements.{part-is, element-is, list-elements}
use Rattle.cell_machine.proofs.Controllers.{element-fits, element-signal}
use Rattle.cell_machine.proofs.Raising.{signal-part, signal-first}
use Rattle.cell_machine.proofs.Bounds.{passes}
use Rattle.cell_machine.proofs.BytesLaws.{length-range, get-put}
use Rattle.cell_machine.proofs.StepBytes.{own_effect, own_bytes, own_range, own_new, none_is, of_map, of_then, exec-is, piece-is, elem-is, retire-is, atomic-is, has-left, written_at, written_piece}
use Rattle.cell_machine.proofs.StepSame.{looks-own}
use Rattle.cell_machine.proofs.StateBytes.{effect-own, new-own, bytes-own, there}
use Rattle.cell_machine.proofs.EffectBytes.{writes-alone}

-- what a step of one processor writes and reads lies in its places
record OwnFits (new : List ℕ) (P : Spe) (m : MainMemory) (e : Effect) : Type 0 where
  new_is : length new ≡ e.writes.len
  writes : e.writes.at + e.writes.len ≤ length (own_bytes e.writes.place m.bytes P.store)
  reads : e.reads.at + e.reads.len ≤ length (own_bytes e.reads.place m.bytes P.store)

-- ---- an instruction

quad_fits : (p : ℕ) (bytes store : List ℕ) (a : Option ℕ) → length store ≡ 262144 → (quad_in p a).at + (quad_in p a).len ≤ length (own_bytes (quad_in p a).place bytes store)
quad_fits p bytes store None h = omega arith
quad_fits p bytes store (Some at) h = omega arith

register_long : (P : Spe) (r : ℕ) → IsWhole P → r < 128 → length (register P.registers r) ≡ 16
register_long P r whole h = whole.quads r (register P.registers r) (slice_get-get_or P.registers r [] (let e = whole.many in omega arith))

stored_long : (p : ℕ) (P : Spe) (o : Option Instr) → instr P ≡ o → IsWhole P → length (stored_by P o) ≡ (quad_in p (option_and_then (stores_at P) o)).len
stored_long p P None is whole = refl
stored_long p P (Some i) is whole = on (stores_at P i)
  where
    on : (a : Option ℕ) → length (option_map_or (λ at. register P.registers i.rt) a []) ≡ (quad_in p a).len
    on None = refl
    on (Some at) = register_long P i.rt whole (instr_of-FieldsFit (word_at P.store P.pc) i is).within.rt

exec_fits : (p : ℕ) (P Q : Spe) (m : MainMemory) → IsWhole P → OwnFits (stored_by P (instr P)) P m (exec_effect p P Q)
exec_fits p P Q m whole = record {
  new_is = stored_long p P (instr P) refl whole;
  writes = quad_fits p m.bytes P.store (option_and_then (stores_at P) (instr P)) whole.store;
  reads = quad_fits p m.bytes P.store (option_and_then (loads_at P) (instr P)) whole.store;
}

-- ---- a copy

copy_fits : (p : ℕ) (P Q : Spe) (m : MainMemory) (lines : ℕ) (x : Part) (put_it : Bool) → length m.bytes ≡ 128 * lines → length P.store ≡ 262144 → x.ls + x.len ≤ 262144 → x.ea + x.len ≤ 128 * lines
    → OwnFits (own_range (copy_effect p put_it x Q).reads m.bytes P.store) P m (copy_effect p put_it x Q)
copy_fits p P Q m lines x true long store ls ea =
    let r : x.ls + x.len ≤ length P.store = omega arith in
    record { new_is = length-range P.store x.ls x.len r; writes = omega arith; reads = r }
copy_fits p P Q m lines x false long store ls ea =
    let r : x.ea + x.len ≤ length m.bytes = omega arith in
    record { new_is = length-range m.bytes x.ea x.len r; writes = omega arith; reads = r }

-- a part lies within its element
part_within : (lines : ℕ) (x : Element) (k : ℕ) → ElementFits lines x → k < parts_in x
    → ((part_in x k).ls + (part_in x k).len ≤ 262144) × ((part_in x k).ea + (part_in x k).len ≤ 128 * lines)
part_within lines x k fits h = on (x.size == 0) refl h
  where
    on : (b : Bool) → (x.size == 0) ≡ b → k < cond b 0 ((x.ea + x.size - 1) / 128 - x.ea / 128 + 1)
        → ((part_in x k).ls + (part_in x k).len ≤ 262144) × ((part_in x k).ea + (part_in x k).len ≤ 128 * lines)
    on true e less = absurd (omega arith)
    on false e less =
        let some : 0 < x.size = grind (arith, nat_tests) in
        let store = fits.store in
        let there = fits.memory in
        (omega arith, omega arith)

-- the four bytes of a signal lie in the store
signal_within : (z : Element) (k : ℕ) → IsSignal z → k < parts_in z → (part_in z k).ls + 4 ≤ 262144
signal_within z k is less =
    let part : part_in z k ≡ record { ls = z.ls; ea = z.ea; len = 4 } = ap (part_in z) (signal-first z k is less) ∙ signal-part z is in
    let low : z.ls + 4 ≤ 262144 = let a = is.store in let b = is.size in omega arith in
    subst (λ (y : Part). y.ls + 4 ≤ 262144) (sym part) low

part_fits : (spes p : ℕ) (P : Spe) (x : Left) (m : MainMemory) (lines : ℕ) (d : Command) (part : Part) → length m.bytes ≡ 128 * lines → length P.store ≡ 262144
    → part.ls + part.len ≤ 262144 → part.ea + part.len ≤ 128 * lines → (is_signal d.kind ≡ true → part.ls + 4 ≤ 262144)
    → OwnFits (new_of (piece_written d.kind) (own_range (part_effect spes p d part x).reads m.bytes P.store)) P m (part_effect spes p d part x)
part_fits spes p P x m lines d part long store within there signal = on (is_signal d.kind) signal
  where
    effect_by : Bool → Effect
    effect_by b = cond b (signal_effect spes p part x) (copy_effect p (is_put d.kind) part x.spe)

    on : (b : Bool) → (b ≡ true → part.ls + 4 ≤ 262144) → OwnFits (new_of (cond b (Given []) Copy) (own_range (effect_by b).reads m.bytes P.store)) P m (effect_by b)
    on true low = record { new_is = refl; writes = omega arith; reads = let l = low refl in omega arith }
    on false low = copy_fits p P x.spe m lines part (is_put d.kind) long store within there

piece_fits : (spes p q c e0 k lines n : ℕ) (P : Spe) (m : MainMemory) (x : Left) (e : Effect) → length m.bytes ≡ 128 * lines → length P.store ≡ 262144 → IsBounded lines n P
    → own m (Piece q c e0 k) P ≡ Some x → own_effect spes p m (Piece q c e0 k) P ≡ Some e → OwnFits (own_new m (Piece q c e0 k) P e) P m e
unfolding may_piece
piece_fits spes p q c e0 k lines n P m x e long store bounded is effect =
    piece-is spes p q c e0 k m P x e (λ y f. OwnFits (own_new m (Piece q c e0 k) P f) P m f) is effect (λ d z may at there.
    let of = part-is P.moves c e0 k d (passes P c (has_part P.moves c e0 k) d may at) in
    let same : of.element ≡ z = some_same of.element z (sym of.there ∙ there) in
    let fits = element-fits lines n P c d z bounded at of.moved there in
    let within = part_within lines z k fits (subst (λ y. k < parts_in y) same of.within) in
    let w = written_piece m q c e0 k P d at in
    rw w (part_fits spes p P (piece_of m P c k d z) m lines d (part_in z k) long store within.0 within.1 (λ is. signal_within z k (element-signal lines n P c d z bounded at there is) (subst (λ y. k < parts_in y) same of.within))))

-- ---- an element

-- the next element of a list, where not all are there
element_within : (ea size n : ℕ) → ea + size ≤ 262144 → n ≤ size / 8 → n ≢ size / 8 → ea + 8 * n + 8 ≤ 262144
element_within ea size n h few some = omega arith

list_fits : (lines : ℕ) (d : Command) (k : Kind) → is_list k ≡ true → KindFits lines d k → d.ea + d.size ≤ 262144
list_fits lines d Put l f = absurd (true≢false (sym l))
list_fits lines d Get l f = absurd (true≢false (sym l))
list_fits lines d PutList l f = f.store
list_fits lines d GetList l f = f.store
list_fits lines d Barrier l f = absurd (true≢false (sym l))
list_fits lines d PutQueued l f = absurd (true≢false (sym l))
list_fits lines d Signal l f = absurd (true≢false (sym l))

next_within : (lines n c : ℕ) (P : Spe) (d : Command) → IsBounded lines n P → AreFew P.moves → slice_get P.moves.issued c ≡ Some d → has_element P.moves c d ≡ true → next_at P.moves c d + 8 ≤ 262144
next_within lines n c P d bounded few at has =
    let may = element-is P.moves c d has in
    let list = may.list in
    let read : length (elements_of P.moves.read c d) ≡ length (read_of P.moves.read c) = ap length (list-elements P.moves.read c d list) in
    let in_all : elements_in d ≡ d.size / 8 = rw list refl in
    let most = few c d at in
    let less : (length (elements_of P.moves.read c d) == elements_in d) ≡ false = may.left in
    let differs : length (elements_of P.moves.read c d) ≢ elements_in d = grind (arith, nat_tests) in
    element_within d.ea d.size (length (read_of P.moves.read c)) (list_fits lines d d.kind list (bounded.fits c d at)) (omega arith) (λ h. differs (read ∙ h ∙ sym in_all))

elem_fits : (spes p q c lines n : ℕ) (P : Spe) (m : MainMemory) (x : Left) (e : Effect) → length P.store ≡ 262144 → AreFew P.moves → IsBounded lines n P
    → own m (Elem q c) P ≡ Some x → own_effect spes p m (Elem q c) P ≡ Some e → OwnFits [] P m e
unfolding may_elem
elem_fits spes p q c lines n P m x e store few bounded is effect =
    elem-is spes p q c m P x e (λ y f. OwnFits [] P m f) is effect (λ d may at.
    let within = next_within lines n c P d bounded few at (passes P c (has_element P.moves c) d may at) in
    record { new_is = refl; writes = omega arith; reads = omega arith })

-- ---- an atomic command

line_fits : (p : ℕ) (P Q : Spe) (m : MainMemory) (lines : ℕ) (a : AtomicOp) (f : Fate) → length m.bytes ≡ 128 * lines → length P.store ≡ 262144 → OrderFits lines (AtomicOrder a)
    → OwnFits (new_of (line_written f) (own_range (line_effect p a Q f).reads m.bytes P.store)) P m (line_effect p a Q f)
line_fits p P Q m lines a Got long store fits = let l = fits.1 in copy_fits p P Q m lines (line_part a) false long store fits.0 (omega arith)
line_fits p P Q m lines a Stored long store fits = let l = fits.1 in copy_fits p P Q m lines (line_part a) true long store fits.0 (omega arith)
line_fits p P Q m lines a Lost long store fits = let l = fits.1 in record { new_is = refl; writes = omega arith; reads = omega arith }

atomic_fits : (spes p q lines n : ℕ) (P : Spe) (m : MainMemory) (x : Left) (e : Effect) → length m.bytes ≡ 128 * lines → length P.store ≡ 262144 → IsBounded lines n P
    → own m (Atomic q) P ≡ Some x → own_effect spes p m (Atomic q) P ≡ Some e → OwnFits (own_new m (Atomic q) P e) P m e
atomic_fits spes p q lines n P m x e long store bounded is effect =
    atomic-is spes p q m P x e (λ y f. OwnFits (own_new m (Atomic q) P f) P m f) is effect (λ a may at.
    let w = written_at m q P a at in
    let fits = subst (λ o. IfSome o (λ a. OrderFits lines (AtomicOrder a))) at bounded.slot in
    rw w (line_fits p P (after_atomic m P a).spe m lines a (fate m P a) long store fits))

-- ---- all of them

own_fits : (spes p lines n : ℕ) (m : MainMemory) (s : Step) (P : Spe) (x : Left) (e : Effect) → length m.bytes ≡ 128 * lines → IsWhole P → IsBounded lines n P → own m s P ≡ Some x → own_effect spes p m s P ≡ Some e
    → OwnFits (own_new m s P e) P m e
own_fits spes p lines n m (Exec q) P x e long whole bounded is effect = exec-is spes p q m P x e (λ y f. OwnFits (stored_by P (instr P)) P m f) is effect (λ Q at. exec_fits p P Q m whole)
own_fits spes p lines n m (Piece q c e0 k) P x e long whole bounded is effect = piece_fits spes p q c e0 k lines n P m x e long whole.store bounded is effect
own_fits spes p lines n m (Elem q c) P x e long whole bounded is effect = elem_fits spes p q c lines n P m x e whole.store whole.few bounded is effect
own_fits spes p lines n m (Retire q c) P x e long whole bounded is effect = retire-is spes p q c m P x e (λ y f. OwnFits [] P m f) is effect (λ may. record { new_is = refl; writes = omega arith; reads = omega arith })
own_fits spes p lines n m (Atomic q) P x e long whole bounded is effect = atomic_fits spes p q lines n P m x e long whole.store bounded is effect
own_fits spes p lines n m Host P x e long whole bounded is effect = none_is _ x is

-- ---- in the whole state

-- what a step writes and reads lies in its places, and it writes as many bytes as it says
pub record FitsSpans (M : State) (s : Step) (e : Effect) : Type 0 where
  pub new : length (new_bytes M s e) ≡ e.writes.len
  pub writes : e.writes.at + e.writes.len ≤ length (bytes_of M e.writes.place)
  pub reads : e.reads.at + e.reads.len ≤ length (bytes_of M e.reads.place)

fits_own : (lines n : ℕ) (M : State) (s : Step) (p : ℕ) (P : Spe) (e : Effect) → maker s ≡ Some p → slice_get M.spes p ≡ Some P → IsSound lines n M → effect_of M s ≡ Some e → FitsSpans M s e
fits_own lines n M s p P e by at sound effect =
    let f : own_effect (length M.spes) p M.memory s P ≡ Some e = sym (effect-own M s p P by at) ∙ effect in
    let x = has-left (length M.spes) p M.memory s P e f in
    let looks = looks-own (length M.spes) p M.memory s P x.0 e x.1 f in
    let fits = own_fits (length M.spes) p lines n M.memory s P x.0 e sound.long (sound.whole p P at) (sound.bounded p P at) x.1 f in
    let new = new-own M s p P e by at looks.1 in
    let w = bytes-own M p P e.writes.place at looks.2 in
    let r = bytes-own M p P e.reads.place at looks.1 in
    record {
      new = ap length new ∙ fits.new_is;
      writes = rw w fits.writes;
      reads = rw r fits.reads;
    }

all_at : {X : Type 0} (R : X → Type 0) (xs : List X) (k : ℕ) (x : X) → All R xs → slice_get xs k ≡ Some x → R x
all_at R xs k x all at = subst R (get_or_from_slice_get xs k x x at) (All-get_or R xs k x (slice_get_within xs k x at) all)

action_fits : (lines spes : ℕ) (M : State) (a : HostAction) → length M.memory.bytes ≡ 128 * lines → FitsAction lines spes a
    → (length (host_bytes a) ≡ (host_writes a).len) × ((host_writes a).at + (host_writes a).len ≤ length (bytes_of M (host_writes a).place))
action_fits lines spes M (Send p value) long fits = (refl, omega arith)
action_fits lines spes M (TakeOut p) long fits = (refl, omega arith)
action_fits lines spes M (TakeIntr p) long fits = (refl, omega arith)
action_fits lines spes M (Store ea len bytes) long fits = let a = fits.1 in let b = fits.3 in let full = fits.4 in let c = length-take len bytes in (omega arith, omega arith)
action_fits lines spes M (Await p) long fits = (refl, omega arith)
action_fits lines spes M (SignalTo p r value) long fits = (refl, omega arith)

fits_host : (lines n : ℕ) (M : State) (e : Effect) → IsSound lines n M → effect_of M Host ≡ Some e → FitsSpans M Host e
unfolding effect_of written_by
fits_host lines n M e sound effect = on (slice_get M.host.script M.host.done) refl effect
  where
    on : (o : Option HostAction) → slice_get M.host.script M.host.done ≡ o → option_and_then (λ a. option_map (λ d. host_effect a) (acted M a)) o ≡ Some e → FitsSpans M Host e
    on None at h = none_is _ e h
    on (Some a) at h =
        let ok = action_fits lines (length M.spes) M a sound.long (all_at (FitsAction lines (length M.spes)) M.host.script M.host.done a sound.actions at) in
        of_map (λ d. host_effect a) (acted M a) e (FitsSpans M Host) h (λ d was. record {
          new = ap (λ o. length (option_map_or host_bytes o [])) at ∙ ok.0;
          writes = ok.1;
          reads = omega arith;
        })

pub fits_spans : (lines n : ℕ) (M : State) (s : Step) (e : Effect) → IsSound lines n M → effect_of M s ≡ Some e → FitsSpans M s e
fits_spans lines n M (Exec p) e sound effect = there M (Exec p) p e _ refl effect (λ P at. fits_own lines n M (Exec p) p P e refl at sound effect)
fits_spans lines n M (Piece p c e0 k) e sound effect = there M (Piece p c e0 k) p e _ refl effect (λ P at. fits_own lines n M (Piece p c e0 k) p P e refl at sound effect)
fits_spans lines n M (Elem p c) e sound effect = there M (Elem p c) p e _ refl effect (λ P at. fits_own lines n M (Elem p c) p P e refl at sound effect)
fits_spans lines n M (Retire p c) e sound effect = there M (Retire p c) p e _ refl effect (λ P at. fits_own lines n M (Retire p c) p P e refl at sound effect)
fits_spans lines n M (Atomic p) e sound effect = there M (Atomic p) p e _ refl effect (λ P at. fits_own lines n M (Atomic p) p P e refl at sound effect)
fits_spans lines n M Host e sound effect = fits_host lines n M e sound effect

-- ---- the word of an instruction

line_fetch : (p : ℕ) (P Q : Spe) (m : MainMemory) (a : AtomicOp) (f : Fate) → (line_effect p a Q f).fetch.at + (line_effect p a Q f).fetch.len ≤ length (own_bytes (line_effect p a Q f).fetch.place m.bytes P.store)
line_fetch p P Q m a Got = omega arith
line_fetch p P Q m a Stored = omega arith
line_fetch p P Q m a Lost = omega arith

part_fetch : (spes p : ℕ) (P : Spe) (m : MainMemory) (d : Command) (part : Part) (x : Left)
    → (part_effect spes p d part x).fetch.at + (part_effect spes p d part x).fetch.len ≤ length (own_bytes (part_effect spes p d part x).fetch.place m.bytes P.store)
part_fetch spes p P m d part x = on (is_signal d.kind)
  where
    effect_by : Bool → Effect
    effect_by b = cond b (signal_effect spes p part x) (copy_effect p (is_put d.kind) part x.spe)

    on : (b : Bool) → (effect_by b).fetch.at + (effect_by b).fetch.len ≤ length (own_bytes (effect_by b).fetch.place m.bytes P.store)
    on true = omega arith
    on false = omega arith

own_fetch : (spes p : ℕ) (m : MainMemory) (s : Step) (P : Spe) (x : Left) (e : Effect) → length P.store ≡ 262144 → IsPlace P.pc → own m s P ≡ Some x → own_effect spes p m s P ≡ Some e
    → e.fetch.at + e.fetch.len ≤ length (own_bytes e.fetch.place m.bytes P.store)
own_fetch spes p m (Exec q) P x e long place is effect =
    exec-is spes p q m P x e (λ y f. f.fetch.at + f.fetch.len ≤ length (own_bytes f.fetch.place m.bytes P.store)) is effect
    (λ Q at. let low = place.0 in let aligned = place.1 in omega arith)
own_fetch spes p m (Piece q c e0 k) P x e long place is effect =
    piece-is spes p q c e0 k m P x e (λ y f. f.fetch.at + f.fetch.len ≤ length (own_bytes f.fetch.place m.bytes P.store)) is effect (λ d z may at there. part_fetch spes p P m d (part_in z k) (piece_of m P c k d z))
own_fetch spes p m (Elem q c) P x e long place is effect =
    elem-is spes p q c m P x e (λ y f. f.fetch.at + f.fetch.len ≤ length (own_bytes f.fetch.place m.bytes P.store)) is effect (λ d may at. omega arith)
own_fetch spes p m (Retire q c) P x e long place is effect =
    retire-is spes p q c m P x e (λ y f. f.fetch.at + f.fetch.len ≤ length (own_bytes f.fetch.place m.bytes P.store)) is effect (λ may. omega arith)
own_fetch spes p m (Atomic q) P x e long place is effect =
    atomic-is spes p q m P x e (λ y f. f.fetch.at + f.fetch.len ≤ length (own_bytes f.fetch.place m.bytes P.store)) is effect (λ a may at. line_fetch p P (after_atomic m P a).spe m a (fate m P a))
own_fetch spes p m Host P x e long place is effect = none_is _ x is

FetchFits : State → Effect → Type 0
FetchFits M e = e.fetch.at + e.fetch.len ≤ length (bytes_of M e.fetch.place)

fetch_own : (lines n : ℕ) (M : State) (s : Step) (p : ℕ) (P : Spe) (e : Effect) → maker s ≡ Some p → slice_get M.spes p ≡ Some P → IsSound lines n M → IsPlace P.pc → effect_of M s ≡ Some e → FetchFits M e
unfolding FetchFits
fetch_own lines n M s p P e by at sound place effect =
    let f : own_effect (length M.spes) p M.memory s P ≡ Some e = sym (effect-own M s p P by at) ∙ effect in
    let x = has-left (length M.spes) p M.memory s P e f in
    let looks = looks-own (length M.spes) p M.memory s P x.0 e x.1 f in
    let b = bytes-own M p P e.fetch.place at looks.0 in
    rw b (own_fetch (length M.spes) p M.memory s P x.0 e (sound.whole p P at).store place x.1 f)

fetch_host : (M : State) (e : Effect) → effect_of M Host ≡ Some e → FetchFits M e
unfolding FetchFits effect_of
fetch_host M e effect =
    of_then _ (slice_get M.host.script M.host.done) e (FetchFits M) effect (λ a at h. of_map (λ d. host_effect a) (acted M a) e (FetchFits M) h (λ d was. omega arith))

fetch_fits : (lines n : ℕ) (M : State) (s : Step) (e : Effect) → IsSound lines n M → effect_of M s ≡ Some e → FetchFits M e
fetch_fits lines n M (Exec p) e sound effect = there M (Exec p) p e _ refl effect (λ P at. fetch_own lines n M (Exec p) p P e refl at sound (sound.whole p P at).place effect)
fetch_fits lines n M (Piece p c e0 k) e sound effect = there M (Piece p c e0 k) p e _ refl effect (λ P at. fetch_own lines n M (Piece p c e0 k) p P e refl at sound (sound.whole p P at).place effect)
fetch_fits lines n M (Elem p c) e sound effect = there M (Elem p c) p e _ refl effect (λ P at. fetch_own lines n M (Elem p c) p P e refl at sound (sound.whole p P at).place effect)
fetch_fits lines n M (Retire p c) e sound effect = there M (Retire p c) p e _ refl effect (λ P at. fetch_own lines n M (Retire p c) p P e refl at sound (sound.whole p P at).place effect)
fetch_fits lines n M (Atomic p) e sound effect = there M (Atomic p) p e _ refl effect (λ P at. fetch_own lines n M (Atomic p) p P e refl at sound (sound.whole p P at).place effect)
fetch_fits lines n M Host e sound effect = fetch_host M e effect

-- all spans of a step lie in their places
pub effects-fit : EffectsFit
unfolding FetchFits
effects-fit lines n M s e sound effect =
    let f = fits_spans lines n M s e sound effect in
    record { new = f.new; writes = f.writes; reads = f.reads; fetch = fetch_fits lines n M s e sound effect }

-- ---- each byte

place_is : (a b : Place) → same_place a b ≡ true → a ≡ b
place_is Memory Memory h = refl
place_is Memory (Local q) h = absurd (true≢false (sym h))
place_is (Local p) Memory h = absurd (true≢false (sym h))
place_is (Local p) (Local q) h = ap Local (let e : p ≡ q = grind (arith, nat_tests) in e)

pub each-byte : EachByte
each-byte lines n M N s e sound is effect place x = ap (λ b. slice_index b x) (writes-alone M N s e is effect place) ∙ on (same_place e.writes.place place) refl
  where
    on : (b : Bool) → same_place e.writes.place place ≡ b
        → slice_index (cond b (put (bytes_of M place) e.writes.at (new_bytes M s e)) (bytes_of M place)) x
        ≡ cond (b && (nat_le e.writes.at x && nat_lt x (e.writes.at + e.writes.len))) (slice_index (new_bytes M s e) (x - e.writes.at)) (slice_index (bytes_of M place) x)
    on false h = refl
    on true h =
        let fits = fits_spans lines n M s e sound effect in
        let new = fits.new in
        let within : e.writes.at + e.writes.len ≤ length (bytes_of M place) = subst (λ w. e.writes.at + e.writes.len ≤ length (bytes_of M w)) (place_is e.writes.place place h) fits.writes in
        get-put (bytes_of M place) (new_bytes M s e) e.writes.at x 0 (omega arith)
        ∙ ap (λ k. cond (nat_le e.writes.at x && nat_lt x (e.writes.at + k)) (slice_index (new_bytes M s e) (x - e.writes.at)) (slice_index (bytes_of M place) x)) new
