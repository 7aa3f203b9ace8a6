-- A step of one processor at other bytes, which are the same where it looks.
use Rattle.std.proofs.Common.{◌≡◌, ℕ, ◌+◌, ◌/◌, refl, sym, ◌∙◌, ap, ap₂, subst, List, [], length}
use Rattle.std.specs.Prelude.{Option, Some, None, slice_get, option_map, option_and_then, Bool, true, false, cond, slice_range, Result, Ok, Err}
use Rattle.cell_base.specs.Bytes.{number}
use Rattle.cell_base.specs.declared.steps.ChannelOp.{ChannelOp}
use Rattle.cell_base.specs.declared.steps.ChannelOp.TheVariants.{Read, Count, Write}
use Rattle.cell_base.specs.declared.steps.Step.{Step}
use Rattle.cell_base.specs.declared.steps.Step.TheVariants.{Exec, Piece, Elem, Retire, Atomic, Host}
use Rattle.spu_decode.specs.declared.Instr.{Instr}
use Rattle.spu_decode.specs.Spelling.{instr_of}
use Rattle.spu_exec.specs.Meaning.{meaning}
use Rattle.local_store.specs.Store.{quad_at}
use Rattle.mfc_command.specs.declared.command.Command.{Command}
use Rattle.mfc_command.specs.declared.command.AtomicOp.{AtomicOp}
use Rattle.mfc_command.specs.declared.command.DmaFault.{DmaFault as Fault}
use Rattle.mfc_command.specs.declared.range.Part.{Part}
use Rattle.mfc_lists.specs.declared.Element.{Element}
use Rattle.mfc_lists.specs.Elements.{element_of}
use Rattle.cell_machine.specs.declared.effect.Place.{Place}
use Rattle.cell_machine.specs.declared.effect.Place.TheVariants.{Memory, Local}
use Rattle.cell_machine.specs.declared.effect.Note.TheVariants.{Ended}
use Rattle.cell_machine.specs.declared.effect.Effect.{Effect}
use Rattle.cell_machine.specs.Spe.{Spe}
use Rattle.cell_machine.specs.Memory.{MainMemory, lines_of, stored}
use Rattle.cell_machine.specs.Moves.{present, read_of}
use Rattle.cell_machine.specs.Exec.{exec, asks, asked_by}
use Rattle.cell_machine.specs.Transfers.{piece, piece_of, after_part, elem, after_element, next_at, next_element, retire, may_piece, may_elem, may_retire, with_retired, is_put, is_signal, part_in, copied, sent, delivery, moved as moved_part, Left}
use Rattle.cell_machine.specs.Atomic.{Fate, Got, Stored, Lost, atomic, may_atomic, after_atomic, answered, moved, fate, line_part}
use Rattle.cell_machine.specs.Next.{left, own}
use Rattle.cell_machine.specs.Effects.{instr, loads_at, stores_at, told, told_by, told_element, ends, exec_effect, piece_effect, part_effect, signal_effect, elem_effect, plain_effect, copy_effect, line_effect, quad_in, of_command}
use Rattle.cell_signals.specs.Registers.{processor_in, register_in}
use Rattle.cell_machine.specs.EffectLaws.{at_store, bare, new_of}
use Rattle.cell_machine.specs.Written.{Written, stored_by}
use Rattle.cell_machine.proofs.StoreFree.{exec-moved, store_after}
use Rattle.cell_machine.proofs.BytesLaws.{first-four, next-four}
use Rattle.cell_machine.proofs.StepBytes.{own_effect, own_written, own_range, own_new, none_is, exec-is, piece-is, elem-is, retire-is, atomic-is, after_moved, element_moved, store_kept}

-- the memory with other bytes
abbrev pub at_bytes : MainMemory → List ℕ → MainMemory
at_bytes m bytes = record m { bytes = bytes }

-- a step of P2 with the memory m2 has this effect, writes these bytes, and leaves what x is but for bytes
pub record OwnSame (spes p : ℕ) (m2 : MainMemory) (s : Step) (P2 : Spe) (new : List ℕ) (e : Effect) (x : Left) : Type 0 where
  pub effect : own_effect spes p m2 s P2 ≡ Some e
  pub new_is : own_new m2 s P2 e ≡ new
  pub y : Left
  pub is : own m2 s P2 ≡ Some y
  pub same : bare y.spe ≡ bare x.spe
  pub versions : y.memory.versions ≡ x.memory.versions
  pub sent : y.sent ≡ x.sent

-- ---- an instruction

told_by_same : (p : ℕ) (P Q : Spe) (s t : List ℕ) (op : ChannelOp) → told_by p (at_store P s) (at_store Q t) op ≡ told_by p P Q op
told_by_same p P Q s t (Read rt ch) = refl
told_by_same p P Q s t (Count rt ch) = refl
told_by_same p P Q s t (Write ch value) = refl

told_same : (p : ℕ) (P Q : Spe) (s t : List ℕ) (op : Option ChannelOp) → told p (at_store P s) (at_store Q t) op ≡ told p P Q op
told_same p P Q s t None = refl
told_same p P Q s t (Some op) = ap (λ n. cond (ends P Q) Ended n) (told_by_same p P Q s t op)

asked_same : (P : Spe) (s : List ℕ) (o : Option Instr) → asked_by (at_store P s) o ≡ asked_by P o
unfolding meaning
asked_same P s None = refl
asked_same P s (Some i) = refl

asks_same : (P : Spe) (s : List ℕ) → instr (at_store P s) ≡ instr P → asks (at_store P s) ≡ asks P
unfolding asks
asks_same P s f = ap (asked_by (at_store P s)) f ∙ asked_same P s (instr P)

stored_same : (P : Spe) (s : List ℕ) (o : Option Instr) → stored_by (at_store P s) o ≡ stored_by P o
stored_same P s None = refl
stored_same P s (Some i) = refl

effect_same : (p : ℕ) (P Q : Spe) (s t : List ℕ) → instr (at_store P s) ≡ instr P → exec_effect p (at_store P s) (at_store Q t) ≡ exec_effect p P Q
effect_same p P Q s t f =
    let note : told p (at_store P s) (at_store Q t) (asks (at_store P s)) ≡ told p P Q (asks P) = told_same p P Q s t (asks (at_store P s)) ∙ ap (told p P Q) (asks_same P s f) in
    ap₂ (λ o n. record {
      fetch = (exec_effect p P Q).fetch;
      reads = quad_in p (option_and_then (loads_at P) o);
      writes = quad_in p (option_and_then (stores_at P) o);
      note = n;
      fixed = (exec_effect p P Q).fixed;
    }) f note

loads_same : (p : ℕ) (b b2 u v : List ℕ) (a : Option ℕ) → own_range (quad_in p a) b u ≡ own_range (quad_in p a) b2 v → option_map (quad_at u) a ≡ option_map (quad_at v) a
loads_same p b b2 u v None h = refl
loads_same p b b2 u v (Some at) h = ap Some h

exec_same : (spes p q : ℕ) (P Q : Spe) (m : MainMemory) (b2 s2 : List ℕ) → length m.bytes ≡ length b2 → exec (lines_of m) P ≡ Some Q
    → own_range (exec_effect p P Q).fetch m.bytes P.store ≡ own_range (exec_effect p P Q).fetch b2 s2
    → own_range (exec_effect p P Q).reads m.bytes P.store ≡ own_range (exec_effect p P Q).reads b2 s2
    → OwnSame spes p (at_bytes m b2) (Exec q) (at_store P s2) (stored_by P (instr P)) (exec_effect p P Q) (left m Q)
exec_same spes p q P Q m b2 s2 long is fetched read =
    let f : instr (at_store P s2) ≡ instr P = ap (λ b. instr_of (number b)) (sym fetched) in
    let h = loads_same p m.bytes b2 P.store s2 (option_and_then (loads_at P) (instr P)) read in
    let moved = exec-moved (lines_of m) P s2 (instr P) refl f h in
    let lines : lines_of (at_bytes m b2) ≡ lines_of m = ap (λ n. n / 128) (sym long) in
    let K = at_store Q (store_after P (instr P) s2) in
    let made : exec (lines_of (at_bytes m b2)) (at_store P s2) ≡ Some K =
    ap (λ n. exec n (at_store P s2)) lines ∙ moved ∙ ap (option_map (λ Q. at_store Q (store_after P (instr P) s2))) is in
    record {
      effect = ap (option_map (exec_effect p (at_store P s2))) made ∙ ap Some (effect_same p P Q s2 (store_after P (instr P) s2) f);
      new_is = ap (stored_by (at_store P s2)) f ∙ stored_same P s2 (instr P);
      y = left (at_bytes m b2) K;
      is = ap (option_map (left (at_bytes m b2))) made;
      same = refl;
      versions = refl;
      sent = refl;
    }

-- ---- a copy

-- by processors that differ in the store alone
copied_same : (K : Spe) (m : MainMemory) (b2 s2 : List ℕ) (put_it : Bool) (part : Part)
    → (bare (copied (at_bytes m b2) (at_store K s2) put_it part).spe ≡ bare (copied m K put_it part).spe) × ((copied (at_bytes m b2) (at_store K s2) put_it part).memory.versions ≡ (copied m K put_it part).memory.versions)
unfolding copied stored
copied_same K m b2 s2 true part = (refl, refl)
copied_same K m b2 s2 false part = (refl, refl)

copy_bare : (p : ℕ) (put_it : Bool) (part : Part) (K Q : Spe) → bare K ≡ bare Q → copy_effect p put_it part K ≡ copy_effect p put_it part Q
copy_bare p put_it part K Q h = ap (λ (X : Spe). copy_effect p put_it part X) h

line_new : (w : Written) (u v : List ℕ) → u ≡ v → new_of w v ≡ new_of w u
line_new w u v h = ap (new_of w) (sym h)

-- what a part of a command leaves, and its effect, at other bytes that are the same where it looks
record PartSame (spes p : ℕ) (d : Command) (part : Part) (K L : Left) : Type 0 where
  effect : part_effect spes p d part K ≡ part_effect spes p d part L
  same : bare K.spe ≡ bare L.spe
  versions : K.memory.versions ≡ L.memory.versions
  sent : K.sent ≡ L.sent

copied_none : (n : MainMemory) (X : Spe) (b : Bool) (part : Part) → (copied n X b part).sent ≡ None
unfolding copied
copied_none n X true part = refl
copied_none n X false part = refl

delivery_same : (K : Spe) (s2 : List ℕ) (part : Part) → slice_range K.store part.ls (part.ls + 4) ≡ slice_range s2 part.ls (part.ls + 4) → delivery (at_store K s2) part ≡ delivery K part
delivery_same K s2 part h = ap (λ b. record { spe = processor_in part.ea; register = register_in part.ea; value = number b }) (sym h)

part_same : (spes p : ℕ) (K : Spe) (m : MainMemory) (b2 s2 : List ℕ) (d : Command) (part : Part)
    → own_range (part_effect spes p d part (moved_part m K d.kind part)).reads m.bytes K.store ≡ own_range (part_effect spes p d part (moved_part m K d.kind part)).reads b2 s2
    → PartSame spes p d part (moved_part (at_bytes m b2) (at_store K s2) d.kind part) (moved_part m K d.kind part)
unfolding sent
part_same spes p K m b2 s2 d part read = let r = same_by (is_signal d.kind) read in record { effect = r.0; same = r.1; versions = r.2; sent = r.3 }
  where
    left_by : MainMemory → Spe → Bool → Left
    left_by n X b = cond b (sent n X part) (copied n X (is_put d.kind) part)

    effect_by : Left → Bool → Effect
    effect_by x b = cond b (signal_effect spes p part x) (copy_effect p (is_put d.kind) part x.spe)

    same_by : (b : Bool) → own_range (effect_by (left_by m K b) b).reads m.bytes K.store ≡ own_range (effect_by (left_by m K b) b).reads b2 s2
        → (effect_by (left_by (at_bytes m b2) (at_store K s2) b) b ≡ effect_by (left_by m K b) b)
        × (bare (left_by (at_bytes m b2) (at_store K s2) b).spe ≡ bare (left_by m K b).spe)
        × ((left_by (at_bytes m b2) (at_store K s2) b).memory.versions ≡ (left_by m K b).memory.versions)
        × ((left_by (at_bytes m b2) (at_store K s2) b).sent ≡ (left_by m K b).sent)
    same_by true read =
        let e : delivery (at_store K s2) part ≡ delivery K part = delivery_same K s2 part read in
        (ap (λ v. signal_effect spes p part (record { spe = K; memory = m; sent = Some v })) e, refl, refl, ap Some e)
    same_by false read =
        let two = copied_same K m b2 s2 (is_put d.kind) part in (
          copy_bare p (is_put d.kind) part (copied (at_bytes m b2) (at_store K s2) (is_put d.kind) part).spe (copied m K (is_put d.kind) part).spe two.0,
          two.0,
          two.1,
          copied_none (at_bytes m b2) (at_store K s2) (is_put d.kind) part ∙ sym (copied_none m K (is_put d.kind) part),
        )

piece_same : (spes p q c e0 k : ℕ) (P : Spe) (m : MainMemory) (b2 s2 : List ℕ) (d : Command) (z : Element)
    → may_piece P c e0 k ≡ true → slice_get P.moves.issued c ≡ Some d → present P.moves.read c d ≡ Some z
    → own_range (part_effect spes p d (part_in z k) (piece_of m P c k d z)).reads m.bytes P.store ≡ own_range (part_effect spes p d (part_in z k) (piece_of m P c k d z)).reads b2 s2
    → OwnSame spes p (at_bytes m b2) (Piece q c e0 k) (at_store P s2) (own_new m (Piece q c e0 k) P (part_effect spes p d (part_in z k) (piece_of m P c k d z)))
    (part_effect spes p d (part_in z k) (piece_of m P c k d z)) (piece_of m P c k d z)
unfolding piece may_piece
piece_same spes p q c e0 k P m b2 s2 d z may at there read =
    let A = after_part P c z.number k d in
    let K = piece_of (at_bytes m b2) (at_store P s2) c k d z in
    let L = piece_of m P c k d z in
    let kept : A.store ≡ P.store = store_kept (λ X. after_part X c z.number k d) P (after_moved P P.store c z.number k d) in
    let read2 : own_range (part_effect spes p d (part_in z k) L).reads m.bytes A.store ≡ own_range (part_effect spes p d (part_in z k) L).reads b2 s2 =
    ap (own_range (part_effect spes p d (part_in z k) L).reads m.bytes) kept ∙ read in
    let after = after_moved P s2 c z.number k d in
    let two = subst (λ X. PartSame spes p d (part_in z k) (moved_part (at_bytes m b2) X d.kind (part_in z k)) L) (sym after) (part_same spes p A m b2 s2 d (part_in z k) read2) in
    let made : own (at_bytes m b2) (Piece q c e0 k) (at_store P s2) ≡ Some K = rw (may, at, there) refl in
    record {
      effect = ap (option_and_then (λ (x : Left). of_command (at_store P s2) c (piece_effect spes p c k (at_store P s2) x))) made
          ∙ ap (option_and_then (piece_effect spes p c k (at_store P s2) K)) at
          ∙ ap (option_map (λ x. part_effect spes p d (part_in x k) K)) there
          ∙ ap Some two.effect;
      new_is = line_new (own_written m (Piece q c e0 k) P) _ _ read;
      y = K;
      is = made;
      same = two.same;
      versions = two.versions;
      sent = two.sent;
    }

-- ---- an element

element_same : (P : Spe) (s2 : List ℕ) (lines c : ℕ) (d : Command) → slice_range P.store (next_at P.moves c d) (next_at P.moves c d + 8) ≡ slice_range s2 (next_at P.moves c d) (next_at P.moves c d + 8)
    → next_element lines (at_store P s2) c d ≡ next_element lines P c d
element_same P s2 lines c d h =
    let at = next_at P.moves c d in
    ap₂ (λ u v. element_of d.ls (read_of P.moves.read c) lines (number u) (number v)) (sym (first-four P.store s2 at h)) (sym (next-four P.store s2 at h))

elem_told : (P Q : Spe) (s t : List ℕ) (r : Result Element Fault) → told_element (at_store P s) (at_store Q t) r ≡ told_element P Q r
elem_told P Q s t (Ok x) = refl
elem_told P Q s t (Err kind) = refl

-- the effect looks at the store for the element alone
elem_effect_same : (lines p c : ℕ) (P Q : Spe) (s2 : List ℕ) (d : Command) → next_element lines (at_store P s2) c d ≡ next_element lines P c d
    → elem_effect lines p c (at_store P s2) (at_store Q s2) d ≡ elem_effect lines p c P Q d
elem_effect_same lines p c P Q s2 d h =
    ap (λ n. record {
      fetch = (elem_effect lines p c P Q d).fetch;
      reads = (elem_effect lines p c P Q d).reads;
      writes = (elem_effect lines p c P Q d).writes;
      note = n;
      fixed = (elem_effect lines p c P Q d).fixed;
    }) (ap (told_element (at_store P s2) (at_store Q s2)) h ∙ elem_told P Q s2 s2 (next_element lines P c d))

elem_same : (spes p q c : ℕ) (P : Spe) (m : MainMemory) (b2 s2 : List ℕ) (d : Command) → length m.bytes ≡ length b2 → may_elem P c ≡ true → slice_get P.moves.issued c ≡ Some d
    → slice_range P.store (next_at P.moves c d) (next_at P.moves c d + 8) ≡ slice_range s2 (next_at P.moves c d) (next_at P.moves c d + 8)
    → OwnSame spes p (at_bytes m b2) (Elem q c) (at_store P s2) [] (elem_effect (lines_of m) p c P (after_element P c d (next_element (lines_of m) P c d)) d) (left m (after_element P c d (next_element (lines_of m) P c d)))
unfolding elem may_elem
elem_same spes p q c P m b2 s2 d long may at read =
    let n = lines_of m in
    let lines : lines_of (at_bytes m b2) ≡ n = ap (λ n. n / 128) (sym long) in
    let P2 = at_store P s2 in
    let r = next_element n P c d in
    let Q = after_element P c d r in
    let K = at_store Q s2 in
    let same : next_element n P2 c d ≡ r = element_same P s2 n c d read in
    let after : after_element P2 c d (next_element n P2 c d) ≡ K = ap (after_element P2 c d) same ∙ element_moved P s2 c d r in
    let made0 : elem n P2 c ≡ Some (after_element P2 c d (next_element n P2 c d)) = rw (may, at) refl in
    let made : elem n P2 c ≡ Some K = made0 ∙ ap Some after in
    let made2 : elem (lines_of (at_bytes m b2)) P2 c ≡ Some K = ap (λ k. elem k P2 c) lines ∙ made in
    record {
      effect = ap₂ (λ k o. option_and_then (λ Q. of_command P2 c (λ d. Some (elem_effect k p c P2 Q d))) o) lines made2
          ∙ ap (option_and_then (λ d. Some (elem_effect n p c P2 K d))) at
          ∙ ap Some (elem_effect_same n p c P Q s2 d same);
      new_is = refl;
      y = left (at_bytes m b2) K;
      is = ap (option_map (left (at_bytes m b2))) made2;
      same = refl;
      versions = refl;
      sent = refl;
    }

-- ---- a retirement

retire_same : (spes p q c : ℕ) (P : Spe) (m : MainMemory) (b2 s2 : List ℕ) → may_retire P c ≡ true
    → OwnSame spes p (at_bytes m b2) (Retire q c) (at_store P s2) [] (plain_effect (record P { moves = with_retired P.moves c })) (left m (record P { moves = with_retired P.moves c }))
unfolding retire may_retire
retire_same spes p q c P m b2 s2 may =
    let K = record (at_store P s2) { moves = with_retired P.moves c } in
    let made : retire (at_store P s2) c ≡ Some K = rw may refl in
    record {
      effect = ap (option_map plain_effect) made;
      new_is = refl;
      y = left (at_bytes m b2) K;
      is = ap (option_map (left (at_bytes m b2))) made;
      same = refl;
      versions = refl;
      sent = refl;
    }

-- ---- an atomic command

moved_same : (K : Spe) (m : MainMemory) (b2 s2 : List ℕ) (a : AtomicOp) (f : Fate)
    → (bare (moved (at_bytes m b2) (at_store K s2) a f).spe ≡ bare (moved m K a f).spe) × ((moved (at_bytes m b2) (at_store K s2) a f).memory.versions ≡ (moved m K a f).memory.versions)
moved_same K m b2 s2 a Got = copied_same K m b2 s2 false (line_part a)
moved_same K m b2 s2 a Stored = copied_same K m b2 s2 true (line_part a)
moved_same K m b2 s2 a Lost = (refl, refl)

moved_sent : (m : MainMemory) (K : Spe) (a : AtomicOp) (f : Fate) → (moved m K a f).sent ≡ None
unfolding copied
moved_sent m K a Got = refl
moved_sent m K a Stored = refl
moved_sent m K a Lost = refl

line_bare : (p : ℕ) (a : AtomicOp) (f : Fate) (K Q : Spe) → bare K ≡ bare Q → line_effect p a K f ≡ line_effect p a Q f
line_bare p a Got K Q h = ap (λ (X : Spe). line_effect p a X Got) h
line_bare p a Stored K Q h = ap (λ (X : Spe). line_effect p a X Stored) h
line_bare p a Lost K Q h = ap (λ (X : Spe). line_effect p a X Lost) h

atomic_same : (spes p q : ℕ) (P : Spe) (m : MainMemory) (b2 s2 : List ℕ) (a : AtomicOp) → may_atomic P ≡ true → P.channels.slot ≡ Some a
    → own_range (line_effect p a (after_atomic m P a).spe (fate m P a)).reads m.bytes P.store ≡ own_range (line_effect p a (after_atomic m P a).spe (fate m P a)).reads b2 s2
    → OwnSame spes p (at_bytes m b2) (Atomic q) (at_store P s2) (own_new m (Atomic q) P (line_effect p a (after_atomic m P a).spe (fate m P a))) (line_effect p a (after_atomic m P a).spe (fate m P a)) (after_atomic m P a)
unfolding atomic may_atomic
atomic_same spes p q P m b2 s2 a may at read =
    let m2 = at_bytes m b2 in
    let P2 = at_store P s2 in
    let f = fate m P a in
    let K = after_atomic m2 P2 a in
    let L = after_atomic m P a in
    let two = moved_same (answered m P a) m b2 s2 a f in
    let made : atomic m2 P2 ≡ Some K = rw (may, at) refl in
    record {
      effect = ap (option_and_then (λ (x : Left). option_map (λ a. line_effect p a x.spe (fate m2 P2 a)) P.channels.slot)) made
          ∙ ap (option_map (λ a. line_effect p a K.spe (fate m2 P2 a))) at
          ∙ ap Some (line_bare p a f K.spe L.spe two.0);
      new_is = line_new (own_written m (Atomic q) P) _ _ read;
      y = K;
      is = made;
      same = two.0;
      versions = two.1;
      sent = moved_sent m2 (answered m2 P2 a) a f ∙ sym (moved_sent m (answered m P a) a f);
    }

-- ---- all of them

-- at other bytes that are the same where the step looks, the step has the same effect, writes the same bytes and leaves the same but for bytes
pub own-same : (spes p : ℕ) (m : MainMemory) (b2 s2 : List ℕ) (s : Step) (P : Spe) (x : Left) (e : Effect) → length m.bytes ≡ length b2 → own m s P ≡ Some x → own_effect spes p m s P ≡ Some e
    → own_range e.fetch m.bytes P.store ≡ own_range e.fetch b2 s2 → own_range e.reads m.bytes P.store ≡ own_range e.reads b2 s2
    → OwnSame spes p (at_bytes m b2) s (at_store P s2) (own_new m s P e) e x
own-same spes p m b2 s2 (Exec q) P x e long is effect fetched read =
    exec-is spes p q m P x e
    (λ y f. own_range f.fetch m.bytes P.store ≡ own_range f.fetch b2 s2 → own_range f.reads m.bytes P.store ≡ own_range f.reads b2 s2 → OwnSame spes p (at_bytes m b2) (Exec q) (at_store P s2) (stored_by P (instr P)) f y)
    is effect (λ Q r. exec_same spes p q P Q m b2 s2 long r) fetched read
own-same spes p m b2 s2 (Piece q c e0 k) P x e long is effect fetched read =
    piece-is spes p q c e0 k m P x e (λ y f. own_range f.reads m.bytes P.store ≡ own_range f.reads b2 s2 → OwnSame spes p (at_bytes m b2) (Piece q c e0 k) (at_store P s2) (own_new m (Piece q c e0 k) P f) f y)
    is effect (λ d z may at there. piece_same spes p q c e0 k P m b2 s2 d z may at there) read
own-same spes p m b2 s2 (Elem q c) P x e long is effect fetched read =
    elem-is spes p q c m P x e (λ y f. own_range f.reads m.bytes P.store ≡ own_range f.reads b2 s2 → OwnSame spes p (at_bytes m b2) (Elem q c) (at_store P s2) [] f y)
    is effect (λ d may at. elem_same spes p q c P m b2 s2 d long may at) read
own-same spes p m b2 s2 (Retire q c) P x e long is effect fetched read =
    retire-is spes p q c m P x e (λ y f. OwnSame spes p (at_bytes m b2) (Retire q c) (at_store P s2) [] f y) is effect (λ may. retire_same spes p q c P m b2 s2 may)
own-same spes p m b2 s2 (Atomic q) P x e long is effect fetched read =
    atomic-is spes p q m P x e (λ y f. own_range f.reads m.bytes P.store ≡ own_range f.reads b2 s2 → OwnSame spes p (at_bytes m b2) (Atomic q) (at_store P s2) (own_new m (Atomic q) P f) f y)
    is effect (λ a may at. atomic_same spes p q P m b2 s2 a may at) read
own-same spes p m b2 s2 Host P x e long is effect fetched read = none_is _ x is

-- ---- where it looks

-- the spans of a step of processor p are of its store or of the memory
abbrev pub IsOwn : ℕ → Place → Type 0
IsOwn p Memory = Unit {0}
IsOwn p (Local q) = q ≡ p

quad_own : (p : ℕ) (a : Option ℕ) → IsOwn p (quad_in p a).place
quad_own p None = tt
quad_own p (Some at) = refl

abbrev pub LooksOwn : ℕ → Effect → Type 0
LooksOwn p e = IsOwn p e.fetch.place × IsOwn p e.reads.place × IsOwn p e.writes.place

copy_own : (p : ℕ) (b : Bool) (x : Part) (Q : Spe) → LooksOwn p (copy_effect p b x Q)
copy_own p true x Q = (tt, refl, tt)
copy_own p false x Q = (tt, tt, refl)

part_own : (spes p : ℕ) (d : Command) (part : Part) (x : Left) → LooksOwn p (part_effect spes p d part x)
part_own spes p d part x = on (is_signal d.kind)
  where
    on : (b : Bool) → LooksOwn p (cond b (signal_effect spes p part x) (copy_effect p (is_put d.kind) part x.spe))
    on true = (tt, refl, tt)
    on false = copy_own p (is_put d.kind) part x.spe

line_own : (p : ℕ) (a : AtomicOp) (Q : Spe) (f : Fate) → LooksOwn p (line_effect p a Q f)
line_own p a Q Got = copy_own p false (line_part a) Q
line_own p a Q Stored = copy_own p true (line_part a) Q
line_own p a Q Lost = (tt, tt, tt)

pub looks-own : (spes p : ℕ) (m : MainMemory) (s : Step) (P : Spe) (x : Left) (e : Effect) → own m s P ≡ Some x → own_effect spes p m s P ≡ Some e → LooksOwn p e
looks-own spes p m (Exec q) P x e is effect = exec-is spes p q m P x e (λ y f. LooksOwn p f) is effect (λ Q at. (refl, quad_own p _, quad_own p _))
looks-own spes p m (Piece q c e0 k) P x e is effect = piece-is spes p q c e0 k m P x e (λ y f. LooksOwn p f) is effect (λ d z may at there. part_own spes p d (part_in z k) (piece_of m P c k d z))
looks-own spes p m (Elem q c) P x e is effect = elem-is spes p q c m P x e (λ y f. LooksOwn p f) is effect (λ d may at. (tt, refl, tt))
looks-own spes p m (Retire q c) P x e is effect = retire-is spes p q c m P x e (λ y f. LooksOwn p f) is effect (λ may. (tt, tt, tt))
looks-own spes p m (Atomic q) P x e is effect = atomic-is spes p q m P x e (λ y f. LooksOwn p f) is effect (λ a may at. line_own p a (after_atomic m P a).spe (fate m P a))
looks-own spes p m Host P x e is effect = none_is _ x is
