-- A step of one processor, as a function of it and of the memory: which bytes it changes, and which it looks at.
use Rattle.std.proofs.Common.{◌≡◌, ℕ, ◌+◌, refl, sym, ◌∙◌, ap, subst, List, []}
use Rattle.std.specs.Prelude.{Option, Some, None, slice_get, option_map, option_and_then, Bool, true, false, cond, slice_range, Result, Ok, Err}
use Rattle.std.specs.Option.{option_map_or}
use Rattle.cell_base.specs.Bytes.{put}
use Rattle.cell_base.specs.declared.steps.Step.{Step}
use Rattle.cell_base.specs.declared.steps.Step.TheVariants.{Exec, Piece, Elem, Retire, Atomic, Host}
use Rattle.spu_decode.specs.declared.Instr.{Instr}
use Rattle.spu_regs.specs.Registers.{register}
use Rattle.spu_exec.specs.Meaning.{with_stored}
use Rattle.mfc_command.specs.declared.command.Command.{Command}
use Rattle.mfc_command.specs.declared.command.AtomicOp.{AtomicOp}
use Rattle.mfc_command.specs.declared.command.DmaFault.{DmaFault as Fault}
use Rattle.mfc_command.specs.declared.range.Part.{Part}
use Rattle.mfc_lists.specs.declared.Element.{Element}
use Rattle.cell_machine.specs.declared.effect.Place.{Place}
use Rattle.cell_machine.specs.declared.effect.Place.TheVariants.{Memory, Local}
use Rattle.cell_machine.specs.declared.effect.Span.{Span}
use Rattle.cell_machine.specs.declared.effect.Effect.{Effect}
use Rattle.cell_machine.specs.Spe.{Spe}
use Rattle.cell_machine.specs.Memory.{MainMemory, lines_of, stored}
use Rattle.cell_machine.specs.Moves.{present, is_stalled}
use Rattle.cell_machine.specs.Exec.{exec}
use Rattle.cell_machine.specs.Transfers.{piece, piece_of, after_part, elem, after_element, next_element, retire, may_piece, may_elem, may_retire, with_done, with_read, with_retired, notified, told as told_stall, is_put, is_signal, part_in, copied, sent, moved as moved_part, Left}
use Rattle.cell_machine.specs.Atomic.{Fate, Got, Stored, Lost, atomic, may_atomic, after_atomic, answered, moved, fate, line_part}
use Rattle.cell_machine.specs.Next.{left, own}
use Rattle.cell_machine.specs.Effects.{instr, stores_at, exec_effect, piece_effect, part_effect, signal_effect, elem_effect, plain_effect, copy_effect, line_effect, quad_in, of_command}
use Rattle.cell_machine.specs.EffectLaws.{at_store, new_of}
use Rattle.cell_machine.specs.Written.{Written, Given, Copy, stored_by, line_written, piece_written}
use Rattle.cell_machine.proofs.Same.{some_same}
use Rattle.cell_machine.proofs.StoreFree.{exec-moved, store_after, of_if}

-- the effect of a step of P, which is processor p, and the bytes that it writes; the host's step has none
abbrev pub own_effect : ℕ → ℕ → MainMemory → Step → Spe → Option Effect
own_effect spes p m (Exec q) P = option_map (exec_effect p P) (exec (lines_of m) P)
own_effect spes p m (Piece q c e k) P = option_and_then (λ x. of_command P c (piece_effect spes p c k P x)) (piece m P c e k)
own_effect spes p m (Elem q c) P = option_and_then (λ Q. of_command P c (λ d. Some (elem_effect (lines_of m) p c P Q d))) (elem (lines_of m) P c)
own_effect spes p m (Retire q c) P = option_map plain_effect (retire P c)
own_effect spes p m (Atomic q) P = option_and_then (λ x. option_map (λ a. line_effect p a x.spe (fate m P a)) P.channels.slot) (atomic m P)
own_effect spes p m Host P = None

abbrev pub own_written : MainMemory → Step → Spe → Written
own_written m (Exec q) P = Given (stored_by P (instr P))
own_written m (Piece q c e k) P = option_map_or (λ d. piece_written d.kind) (slice_get P.moves.issued c) Copy
own_written m (Elem q c) P = Given []
own_written m (Retire q c) P = Given []
own_written m (Atomic q) P = option_map_or (λ a. line_written (fate m P a)) P.channels.slot (Given [])
own_written m Host P = Given []

-- the bytes of a span, which are the memory's or P's own
abbrev pub own_bytes : Place → List ℕ → List ℕ → List ℕ
own_bytes Memory bytes store = bytes
own_bytes (Local q) bytes store = store

abbrev pub own_range : Span → List ℕ → List ℕ → List ℕ
own_range x bytes store = slice_range (own_bytes x.place bytes store) x.at (x.at + x.len)

abbrev pub own_new : MainMemory → Step → Spe → Effect → List ℕ
own_new m s P e = new_of (own_written m s P) (own_range e.reads m.bytes P.store)

-- ---- what is so of an option's value

pub none_is : {X : Type 0} (Q : Type 0) (x : X) → None ≡ Some x → Q
none_is Q x h = absurd (cc)

then_is : {X Y : Type 0} (f : X → Option Y) (o : Option X) (x : X) (y : Y) → o ≡ Some x → option_and_then f o ≡ Some y → f x ≡ Some y
then_is f o x y e h = sym (ap (option_and_then f) e) ∙ h

pub of_map : {X Y : Type 0} (f : X → Y) (o : Option X) (y : Y) (R : Y → Type 0) → option_map f o ≡ Some y → ((x : X) → o ≡ Some x → R (f x)) → R y
of_map f None y R h k = none_is _ y h
of_map f (Some x) y R h k = subst R (some_same (f x) y h) (k x refl)

pub of_then : {X Y : Type 0} (f : X → Option Y) (o : Option X) (y : Y) (R : Y → Type 0) → option_and_then f o ≡ Some y → ((x : X) → o ≡ Some x → f x ≡ Some y → R y) → R y
of_then f None y R h k = none_is _ y h
of_then f (Some x) y R h k = k x refl h

of_test : {X : Type 0} (b : Bool) (o : Option X) (y : X) (Q : Type 0) → cond b o None ≡ Some y → (b ≡ true → o ≡ Some y → Q) → Q
of_test true o y Q h k = k refl h
of_test false o y Q h k = none_is Q y h

-- ---- what a step leaves and its effect, for each kind of step

pub exec-is : (spes p q : ℕ) (m : MainMemory) (P : Spe) (x : Left) (e : Effect) (R : Left → Effect → Type 0) → own m (Exec q) P ≡ Some x → own_effect spes p m (Exec q) P ≡ Some e
    → ((Q : Spe) → exec (lines_of m) P ≡ Some Q → R (left m Q) (exec_effect p P Q)) → R x e
exec-is spes p q m P x e R is effect k =
    of_map (left m) (exec (lines_of m) P) x (λ y. R y e) is (λ Q at.
    subst (λ f. R (left m Q) f) (some_same (exec_effect p P Q) e (sym (ap (option_map (exec_effect p P)) at) ∙ effect)) (k Q at))

pub piece-is : (spes p q c e0 k : ℕ) (m : MainMemory) (P : Spe) (x : Left) (e : Effect) (R : Left → Effect → Type 0) → own m (Piece q c e0 k) P ≡ Some x → own_effect spes p m (Piece q c e0 k) P ≡ Some e
    → ((d : Command) (z : Element) → may_piece P c e0 k ≡ true → slice_get P.moves.issued c ≡ Some d → present P.moves.read c d ≡ Some z
    → R (piece_of m P c k d z) (part_effect spes p d (part_in z k) (piece_of m P c k d z))) → R x e
unfolding piece
piece-is spes p q c e0 k m P x e R is effect r =
    let told : of_command P c (piece_effect spes p c k P x) ≡ Some e = then_is _ _ x e is effect in
    of_test (may_piece P c e0 k) _ x _ is (λ may made.
    of_then _ (slice_get P.moves.issued c) x (λ y. R y e) made (λ d at made2.
    of_map (piece_of m P c k d) (present P.moves.read c d) x (λ y. piece_effect spes p c k P y d ≡ Some e → R y e) made2
    (λ z there g.
    let y = piece_of m P c k d z in
    let f = part_effect spes p d (part_in z k) y in
    subst (R y) (some_same f e (sym (ap (option_map (λ x. part_effect spes p d (part_in x k) y)) there) ∙ g)) (r d z may at there))
    (then_is _ _ d e at told)))

pub elem-is : (spes p q c : ℕ) (m : MainMemory) (P : Spe) (x : Left) (e : Effect) (R : Left → Effect → Type 0) → own m (Elem q c) P ≡ Some x → own_effect spes p m (Elem q c) P ≡ Some e
    → ((d : Command) → may_elem P c ≡ true → slice_get P.moves.issued c ≡ Some d
    → R (left m (after_element P c d (next_element (lines_of m) P c d))) (elem_effect (lines_of m) p c P (after_element P c d (next_element (lines_of m) P c d)) d)) → R x e
unfolding elem
elem-is spes p q c m P x e R is effect r =
    of_map (left m) (elem (lines_of m) P c) x (λ y. R y e) is (λ Q made.
    let told : of_command P c (λ d. Some (elem_effect (lines_of m) p c P Q d)) ≡ Some e = then_is _ _ Q e made effect in
    of_test (may_elem P c) _ Q _ made (λ may made2.
    of_map (λ d. after_element P c d (next_element (lines_of m) P c d)) (slice_get P.moves.issued c) Q
    (λ K. of_command P c (λ d. Some (elem_effect (lines_of m) p c P K d)) ≡ Some e → R (left m K) e) made2
    (λ d at g.
    let K = after_element P c d (next_element (lines_of m) P c d) in
    let f = elem_effect (lines_of m) p c P K d in
    subst (R (left m K)) (some_same f e (then_is _ _ d e at g)) (r d may at))
    told))

pub retire-is : (spes p q c : ℕ) (m : MainMemory) (P : Spe) (x : Left) (e : Effect) (R : Left → Effect → Type 0) → own m (Retire q c) P ≡ Some x → own_effect spes p m (Retire q c) P ≡ Some e
    → (may_retire P c ≡ true → R (left m (record P { moves = with_retired P.moves c })) (plain_effect (record P { moves = with_retired P.moves c }))) → R x e
unfolding retire
retire-is spes p q c m P x e R is effect r =
    of_map (left m) (retire P c) x (λ y. R y e) is (λ Q made.
    let told : plain_effect Q ≡ e = some_same _ e (sym (ap (option_map plain_effect) made) ∙ effect) in
    of_test (may_retire P c) _ Q _ made (λ may made2.
    let same : record P { moves = with_retired P.moves c } ≡ Q = some_same _ Q made2 in
    subst (R (left m Q)) told (subst (λ (K : Spe). R (left m K) (plain_effect K)) same (r may))))

pub atomic-is : (spes p q : ℕ) (m : MainMemory) (P : Spe) (x : Left) (e : Effect) (R : Left → Effect → Type 0) → own m (Atomic q) P ≡ Some x → own_effect spes p m (Atomic q) P ≡ Some e
    → ((a : AtomicOp) → may_atomic P ≡ true → P.channels.slot ≡ Some a → R (after_atomic m P a) (line_effect p a (after_atomic m P a).spe (fate m P a))) → R x e
unfolding atomic
atomic-is spes p q m P x e R is effect r =
    let told : option_map (λ a. line_effect p a x.spe (fate m P a)) P.channels.slot ≡ Some e = then_is _ _ x e is effect in
    of_test (may_atomic P) _ x _ is (λ may made.
    of_map (after_atomic m P) P.channels.slot x (λ y. option_map (λ a. line_effect p a y.spe (fate m P a)) P.channels.slot ≡ Some e → R y e) made
    (λ a at g.
    let y = after_atomic m P a in
    let f = line_effect p a y.spe (fate m P a) in
    subst (R y) (some_same f e (sym (ap (option_map (λ a. line_effect p a y.spe (fate m P a))) at) ∙ g)) (r a may at))
    told)

-- a step that has an effect leaves something
pub has-left : (spes p : ℕ) (m : MainMemory) (s : Step) (P : Spe) (e : Effect) → own_effect spes p m s P ≡ Some e → (x : Left) × (own m s P ≡ Some x)
has-left spes p m (Exec q) P e h = of_map (exec_effect p P) (exec (lines_of m) P) e (λ f. (x : Left) × (own m (Exec q) P ≡ Some x)) h (λ Q at. (left m Q, ap (option_map (left m)) at))
has-left spes p m (Piece q c e0 k) P e h = of_then _ (piece m P c e0 k) e (λ f. (x : Left) × (own m (Piece q c e0 k) P ≡ Some x)) h (λ x at g. (x, at))
has-left spes p m (Elem q c) P e h = of_then _ (elem (lines_of m) P c) e (λ f. (x : Left) × (own m (Elem q c) P ≡ Some x)) h (λ Q at g. (left m Q, ap (option_map (left m)) at))
has-left spes p m (Retire q c) P e h = of_map plain_effect (retire P c) e (λ f. (x : Left) × (own m (Retire q c) P ≡ Some x)) h (λ Q at. (left m Q, ap (option_map (left m)) at))
has-left spes p m (Atomic q) P e h = of_then _ (atomic m P) e (λ f. (x : Left) × (own m (Atomic q) P ≡ Some x)) h (λ x at g. (x, at))
has-left spes p m Host P e h = none_is _ e h

-- ---- which bytes are changed

-- what is left has the new bytes in the span, which is the memory's or processor p's
abbrev pub Leaves : ℕ → Place → ℕ → List ℕ → Spe → MainMemory → Left → Type 0
Leaves p Memory at new P m x = (x.spe.store ≡ P.store) × (x.memory.bytes ≡ put m.bytes at new)
Leaves p (Local q) at new P m x = (q ≡ p) × (x.spe.store ≡ put P.store at new) × (x.memory.bytes ≡ m.bytes)

abbrev LeavesAs : ℕ → List ℕ → Spe → MainMemory → Left → Effect → Type 0
LeavesAs p new P m x e = Leaves p e.writes.place e.writes.at new P m x

store_leaves : (p : ℕ) (P Q : Spe) (m : MainMemory) (o : Option Instr) → Q.store ≡ store_after P o P.store
    → Leaves p (quad_in p (option_and_then (stores_at P) o)).place (quad_in p (option_and_then (stores_at P) o)).at (stored_by P o) P m (left m Q)
store_leaves p P Q m None h = (h, refl)
store_leaves p P Q m (Some i) h = on (stores_at P i) h
  where
    on : (a : Option ℕ) → Q.store ≡ with_stored a (register P.registers i.rt) P.store
        → Leaves p (quad_in p a).place (quad_in p a).at (option_map_or (λ at. register P.registers i.rt) a []) P m (left m Q)
    on None h = (h, refl)
    on (Some at) h = (refl, h, refl)

exec_leaves : (p lines : ℕ) (P : Spe) (m : MainMemory) (o : Option Spe) (Q : Spe) → o ≡ option_map (λ Q. at_store Q (store_after P (instr P) P.store)) o
    → o ≡ Some Q → LeavesAs p (stored_by P (instr P)) P m (left m Q) (exec_effect p P Q)
exec_leaves p lines P m None Q same is = none_is _ Q is
exec_leaves p lines P m (Some K) Q same is =
    let k : K ≡ Q = some_same K Q is in
    let st : K.store ≡ store_after P (instr P) P.store = ap (λ (X : Spe). X.store) (some_same K _ same) in
    store_leaves p P Q m (instr P) (ap (λ (X : Spe). X.store) (sym k) ∙ st)

-- a copy by a processor K that has P's store
copied_leaves : (p : ℕ) (P K : Spe) (m : MainMemory) (put_it : Bool) (part : Part) → K.store ≡ P.store
    → LeavesAs p (own_range (copy_effect p put_it part (copied m K put_it part).spe).reads m.bytes P.store) P m (copied m K put_it part) (copy_effect p put_it part (copied m K put_it part).spe)
unfolding copied stored
copied_leaves p P K m true part h = (h, ap (λ s. put m.bytes part.ea (slice_range s part.ls (part.ls + part.len))) h)
copied_leaves p P K m false part h = (refl, ap (λ s. put s part.ls (slice_range m.bytes part.ea (part.ea + part.len))) h, refl)

-- and a part of a command, which a SNDSIG copies nowhere
part_leaves : (spes p : ℕ) (P K : Spe) (m : MainMemory) (d : Command) (part : Part) → K.store ≡ P.store
    → LeavesAs p (new_of (piece_written d.kind) (own_range (part_effect spes p d part (moved_part m K d.kind part)).reads m.bytes P.store)) P m (moved_part m K d.kind part) (part_effect spes p d part (moved_part m K d.kind part))
unfolding sent
part_leaves spes p P K m d part h = on (is_signal d.kind)
  where
    left_by : Bool → Left
    left_by b = cond b (sent m K part) (copied m K (is_put d.kind) part)

    effect_by : Bool → Effect
    effect_by b = cond b (signal_effect spes p part (left_by b)) (copy_effect p (is_put d.kind) part (left_by b).spe)

    on : (b : Bool) → LeavesAs p (new_of (cond b (Given []) Copy) (own_range (effect_by b).reads m.bytes P.store)) P m (left_by b) (effect_by b)
    on true = (h, refl)
    on false = copied_leaves p P K m (is_put d.kind) part h

-- neither a bit of the stall status nor a mark has to do with the store
notified_moved : (P : Spe) (s : List ℕ) (c : ℕ) (d : Command) → notified (at_store P s) c d ≡ at_store (notified P c d) s
notified_moved P s c d = of_if (λ Q. at_store Q s) (is_stalled P.moves c d) (told_stall P d.tag) P _ _ refl refl

pub after_moved : (P : Spe) (s : List ℕ) (c e0 k : ℕ) (d : Command) → after_part (at_store P s) c e0 k d ≡ at_store (after_part P c e0 k d) s
after_moved P s c e0 k d = notified_moved (record P { moves = with_done P.moves c e0 k }) s c d

pub element_moved : (P : Spe) (s : List ℕ) (c : ℕ) (d : Command) (r : Result Element Fault) → after_element (at_store P s) c d r ≡ at_store (after_element P c d r) s
element_moved P s c d (Ok x) = notified_moved (record P { moves = with_read P.moves c x }) s c d
element_moved P s c d (Err kind) = refl

-- where f leaves the store alone, in whatever store
pub store_kept : (f : Spe → Spe) (P : Spe) → f (at_store P P.store) ≡ at_store (f P) P.store → (f P).store ≡ P.store
store_kept f P h = ap (λ (X : Spe). X.store) h

moved_leaves : (p : ℕ) (P K : Spe) (m : MainMemory) (a : AtomicOp) (f : Fate) → K.store ≡ P.store
    → LeavesAs p (new_of (line_written f) (own_range (line_effect p a (moved m K a f).spe f).reads m.bytes P.store)) P m (moved m K a f) (line_effect p a (moved m K a f).spe f)
moved_leaves p P K m a Got h = copied_leaves p P K m false (line_part a) h
moved_leaves p P K m a Stored h = copied_leaves p P K m true (line_part a) h
moved_leaves p P K m a Lost h = (h, refl)

-- what the atomic command in the slot writes
pub written_at : (m : MainMemory) (q : ℕ) (P : Spe) (a : AtomicOp) → P.channels.slot ≡ Some a → own_written m (Atomic q) P ≡ line_written (fate m P a)
written_at m q P a at = ap (λ o. option_map_or (λ a. line_written (fate m P a)) o (Given [])) at

-- what a piece writes
pub written_piece : (m : MainMemory) (q c e0 k : ℕ) (P : Spe) (d : Command) → slice_get P.moves.issued c ≡ Some d → own_written m (Piece q c e0 k) P ≡ piece_written d.kind
written_piece m q c e0 k P d at = ap (λ o. option_map_or (λ (d : Command). piece_written d.kind) o Copy) at

pub own-leaves : (spes p : ℕ) (m : MainMemory) (s : Step) (P : Spe) (x : Left) (e : Effect) → own m s P ≡ Some x → own_effect spes p m s P ≡ Some e
    → Leaves p e.writes.place e.writes.at (own_new m s P e) P m x
own-leaves spes p m (Exec q) P x e is effect =
    exec-is spes p q m P x e (LeavesAs p (stored_by P (instr P)) P m) is effect
    (λ Q at. exec_leaves p (lines_of m) P m (exec (lines_of m) P) Q (exec-moved (lines_of m) P P.store (instr P) refl refl refl) at)
own-leaves spes p m (Piece q c e0 k) P x e is effect =
    piece-is spes p q c e0 k m P x e (λ y f. LeavesAs p (own_new m (Piece q c e0 k) P f) P m y f) is effect
    (λ d z may at there. let w = written_piece m q c e0 k P d at in
    rw w (part_leaves spes p P (after_part P c z.number k d) m d (part_in z k) (store_kept (λ K. after_part K c z.number k d) P (after_moved P P.store c z.number k d))))
own-leaves spes p m (Elem q c) P x e is effect =
    elem-is spes p q c m P x e (LeavesAs p [] P m) is effect
    (λ d may at. let r = next_element (lines_of m) P c d in (store_kept (λ K. after_element K c d r) P (element_moved P P.store c d r), refl))
own-leaves spes p m (Retire q c) P x e is effect = retire-is spes p q c m P x e (LeavesAs p [] P m) is effect (λ may. (refl, refl))
own-leaves spes p m (Atomic q) P x e is effect =
    atomic-is spes p q m P x e (λ y f. LeavesAs p (own_new m (Atomic q) P f) P m y f) is effect
    (λ a may at. let w = written_at m q P a at in rw w (moved_leaves p P (answered m P a) m a (fate m P a) refl))
own-leaves spes p m Host P x e is effect = none_is _ x is
