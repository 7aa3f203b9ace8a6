-- A piece of a command, in another order.
use Rattle.std.proofs.Common.{◌≡◌, ℕ, zero, suc, ◌+◌, ◌-◌, ◌<◌, ◌≤◌, refl, sym, ◌∙◌, ap, arith, Bool, true, false, List, [], ◌∷◌, ◌++◌, length, Some, None, cond, inl, inr, append-nil}
use Rattle.std.specs.Prelude.{slice_get, slice_range, ◌/◌, ◌==◌, ◌&&◌, ◌||◌, not, nat_lt, option_and_then}
use Rattle.std.specs.List.{range_with_len, last_or}
use Rattle.std.specs.Option.{option_map, option_map_or}
use Rattle.std.proofs.lemmas.Bool.{cases_order, cases_Bool, eq-eqb, false≢true, lt-ltb}
use Rattle.std.proofs.lemmas.Bool.Decides.{nat_tests}
use Rattle.cell_base.specs.declared.steps.Step.TheVariants.{Piece}
use Rattle.lock_lines.specs.Versions.{raised}
use Rattle.mfc_command.specs.declared.command.Command.{Command}
use Rattle.mfc_command.specs.Order.{is_list}
use Rattle.mfc_lists.specs.declared.Element.{Element}
use Rattle.cell_machine.specs.declared.effect.Effect.{Effect}
use Rattle.mfc_command.specs.declared.range.Part.{Part}
use Rattle.cell_base.specs.Bytes.{put}
use Rattle.cell_machine.specs.Spe.{Spe, Moves, PartDone, is_faulted}
use Rattle.cell_machine.specs.State.{State}
use Rattle.cell_machine.specs.Memory.{MainMemory, stored}
use Rattle.cell_machine.specs.Moves.{read_of, is_moved, is_done, present, parts_in, may_begin, whole}
use Rattle.cell_machine.specs.Order.{is_step_of}
use Rattle.cell_machine.specs.EffectLaws.{maker}
use Rattle.cell_machine.specs.Transfers.{Left, may_of, may_piece, has_part, is_part_left, is_put, is_signal, delivery, part_in, with_done}
use Rattle.cell_machine.specs.Effects.{piece_effect, part_effect, signal_effect, copy_effect, of_command}
use Rattle.cell_machine.specs.Next.{own}
use Rattle.cell_machine.specs.Transfers.{piece}
use Rattle.cell_machine.specs.Locks.{stored_by, stored_by_piece}
use Rattle.cell_machine.specs.Written.{Copy, written_by, piece_written}
use Rattle.cell_machine.proofs.Bounds.{passes, may-begun}
use Rattle.cell_machine.proofs.StepBytes.{own_effect}
use Rattle.cell_machine.proofs.Same.{done-elsewhere, done-more, some_same}
use Rattle.cell_machine.proofs.Staying.{done-keeps, any_more, both, not_true}
use Rattle.reorder_laws.specs.Controllers.{part_left, memory_after, IsPiece}
use Rattle.reorder_laws.proofs.Controlling.{piece-made, piece-leaves}
use Rattle.reorder_laws.specs.Cuts.{has, IsFront, IsCut}
use Rattle.reorder_laws.specs.Recorded.{Recorded, IsRecorded, count_of, spe_in, spe_before, is_elem, done_by, retired_by, element_by, owes}
use Rattle.reorder_laws.specs.OrderLaws.{Orders, OrdersElements}
use Rattle.reorder_laws.specs.Frames.{HasFrames, IsFaultless, listed}
use Rattle.reorder_laws.specs.Described.{Describes, DescribesSpe}
use Rattle.reorder_laws.specs.Steps.{HasSameBytes, MakesStep}
use Rattle.reorder_laws.specs.Facts.{RequestsAll, HasTags, OwedListsRest, SendsNothing, StalledMore}
use Rattle.reorder_laws.proofs.Cuts.{shows_skip}
use Rattle.reorder_laws.proofs.Commands.{elem_of, done_is, done_from, read_at, begins_there, same_commands, sound_there}
use Rattle.reorder_laws.proofs.CommandSteps.{Leaves, described}
use Rattle.reorder_laws.proofs.Making.{IsOwn, is_own, made_in}
use Rattle.reorder_laws.proofs.Stalling.{left_not, stalls_are}
use Rattle.reorder_laws.proofs.After.{get_in}
use Rattle.reorder_laws.proofs.Runs.{has_below}

-- may_piece by its parts, and its parts
may_by : (P : Spe) (c e k : ℕ) (d : Command) → is_faulted P.status ≡ false → slice_get P.moves.issued c ≡ Some d → has_part P.moves c e k d ≡ true → may_begin P.moves c ≡ true → may_piece P c e k ≡ true
unfolding may_piece
may_by P c e k d a b h f = on (is_moved d) (option_map_or (is_part_left P.moves.done c e k) (present P.moves.read c d) false) h
  where
    on : (x y : Bool) → (x && y) ≡ true
        → (not (is_faulted P.status) && (option_map_or (λ d. is_moved d && option_map_or (is_part_left P.moves.done c e k) (present P.moves.read c d) false) (slice_get P.moves.issued c) false && may_begin P.moves c)) ≡ true
    on x y g = rw (a, b, h, f) refl

may_of_is : (P : Spe) (c e k : ℕ) → may_piece P c e k ≡ true → may_of P c (has_part P.moves c e k) ≡ true
unfolding may_piece
may_of_is P c e k h = h

piece_wrote : (M : State) (p c e k : ℕ) (P : Spe) (d : Command) → slice_get M.spes p ≡ Some P → slice_get P.moves.issued c ≡ Some d → written_by M (Piece p c e k) ≡ piece_written d.kind
unfolding written_by
piece_wrote M p c e k P d at there =
    ap (λ o. option_map_or (λ (P : Spe). option_map_or (λ (d : Command). piece_written d.kind) (slice_get P.moves.issued c) Copy) o Copy) at
    ∙ ap (λ o. option_map_or (λ (d : Command). piece_written d.kind) o Copy) there

-- a part of a command that is no signal is copied
copied_part : (spes p : ℕ) (d : Command) (x : Part) (y : Left) → is_signal d.kind ≡ false → part_effect spes p d x y ≡ copy_effect p (is_put d.kind) x y.spe
copied_part spes p d x y h = ap (λ b. cond {A = Effect} b (signal_effect spes p x y) (copy_effect p (is_put d.kind) x y.spe)) h

present_same : (m n : Moves) (c : ℕ) (d : Command) → read_of n.read c ≡ read_of m.read c → present n.read c d ≡ present m.read c d
unfolding present
present_same m n c d e = ap (λ xs. last_or None (cond (is_list d.kind) xs (whole d ∷ []))) e

memory_same : (m n : MainMemory) (K P : Spe) (b : Bool) (x : Part) → n.bytes ≡ m.bytes → P.store ≡ K.store → (memory_after n P b x).bytes ≡ (memory_after m K b x).bytes
unfolding stored
memory_same m n K P true x e f = ap (λ bytes. put bytes x.ea (slice_range P.store x.ls (x.ls + x.len))) e ∙ ap (λ s. put m.bytes x.ea (slice_range s x.ls (x.ls + x.len))) f
memory_same m n K P false x e f = e

versions_after : (n : MainMemory) (P : Spe) (b : Bool) (x : Part) → (memory_after n P b x).versions ≡ option_map_or (raised n.versions) (cond b (Some (x.ea / 128)) None) n.versions
unfolding stored
versions_after n P true x = refl
versions_after n P false x = refl

done_more : (xs ys : List PartDone) (c e k : ℕ) → is_done xs c e k ≡ true → is_done (xs ++ ys) c e k ≡ true
unfolding is_done
done_more xs ys c e k h = any_more (λ (d : PartDone). d.cmd == c && d.elem == e && d.part == k) xs ys h

done_here : (m : Moves) (c e k : ℕ) → is_done (with_done m c e k).done c e k ≡ true
done_here m c e k = done-more m c e k c e k ∙ ap (λ b. is_done m.done c e k || (b && e == e && k == k)) (eq-eqb c c refl) ∙ ap (λ b. is_done m.done c e k || (b && k == k)) (eq-eqb e e refl) ∙ ap (λ b. is_done m.done c e k || b) (eq-eqb k k refl) ∙ or_true (is_done m.done c e k)
  where
    or_true : (x : Bool) → (x || true) ≡ true
    or_true true = refl
    or_true false = refl

-- ---- the recorded step

module _ (r : Recorded) (rec : IsRecorded r) (frames : HasFrames r) (j : ℕ) (low : j < r.size) (p c e k : ℕ) (step_is : r.step j ≡ Piece p c e k) where
  p_own : IsOwn r j p
  p_own = is_own r rec frames j low p (ap (λ s. maker s) step_is)

  p_copied : IsPiece (r.state j).memory (spe_before r p j) c e k p_own.left
  p_copied = piece-leaves (r.state j).memory (spe_before r p j) c e k p_own.left (ap (λ s. own (r.state j).memory s (spe_before r p j)) (sym step_is) ∙ p_own.owns)

  p_has : has_part (spe_before r p j).moves c e k p_copied.command ≡ true
  p_has = passes (spe_before r p j) c (has_part (spe_before r p j).moves c e k) p_copied.command (may_of_is (spe_before r p j) c e k p_copied.may) p_copied.at

  p_parts : (is_moved p_copied.command ≡ true) × (is_part_left (spe_before r p j).moves.done c e k p_copied.element ≡ true)
  p_parts =
      let t = both (is_moved p_copied.command) (option_map_or (is_part_left (spe_before r p j).moves.done c e k) (present (spe_before r p j).moves.read c p_copied.command) false) p_has in
      (t.0, sym (ap (λ o. option_map_or (is_part_left (spe_before r p j).moves.done c e k) o false) p_copied.present_is) ∙ t.1)

  p_not_done : is_done (spe_before r p j).moves.done c e k ≡ false
  p_not_done = not_true _ (both (p_copied.element.number == e && nat_lt k (parts_in p_copied.element)) (not (is_done (spe_before r p j).moves.done c e k)) p_parts.1).1

  p_listed : done_by p (r.step j) ≡ Some (record { cmd = c; elem = e; part = k })
  p_listed = ap (done_by p) step_is ∙ ap (λ b. cond b (Some (record { cmd = c; elem = e; part = k })) None) (eq-eqb p p refl)

  p_done_next : is_done (spe_before r p (suc j)).moves.done c e k ≡ true
  p_done_next = ap (λ xs. is_done xs c e k) (frames.done j p low p_own.low ∙ ap (λ o. (spe_before r p j).moves.done ++ listed o) p_listed) ∙ done_here (spe_before r p j).moves c e k

module _ (r : Recorded) (rec : IsRecorded r) (frames : HasFrames r) (p c e k : ℕ) (low_p : p < count_of r) where
  done_on : (x m : ℕ) → x + m ≤ r.size → is_done (spe_before r p x).moves.done c e k ≡ true → is_done (spe_before r p (x + m)).moves.done c e k ≡ true
  done_on x zero h t = let q : x + 0 ≡ x = omega arith in ap (λ y. is_done (spe_before r p y).moves.done c e k) q ∙ t
  done_on x (suc m) h t =
      let q : x + suc m ≡ suc (x + m) = omega arith in
      ap (λ y. is_done (spe_before r p y).moves.done c e k) q ∙ ap (λ xs. is_done xs c e k) (frames.done (x + m) p (omega (arith, h)) low_p)
      ∙ done_also (spe_before r p (x + m)).moves.done (listed (done_by p (r.step (x + m)))) (done_on x m (omega (arith, h)) t)
    where
      done_also : (xs ys : List PartDone) → is_done xs c e k ≡ true → is_done (xs ++ ys) c e k ≡ true
      done_also xs ys g = done_more xs ys c e k g

  -- a piece is copied once
  pub once : (a i : ℕ) → a < i → i < r.size → r.step a ≡ Piece p c e k → r.step i ≡ Piece p c e k → ⊥
  once a i less low s t =
      let m : (m : ℕ) × (i ≡ suc a + m) = (i - suc a, omega (arith, less)) in
      let done : is_done (spe_before r p i).moves.done c e k ≡ true =
      ap (λ y. is_done (spe_before r p y).moves.done c e k) m.1 ∙ done_on (suc a) m.0 (omega (arith, m.1, low)) (p_done_next r rec frames a (omega (arith, less, low)) p c e k s) in
      false≢true (sym (p_not_done r rec frames i low p c e k t) ∙ done)

-- ---- in another order

module _ (r : Recorded) (rec : IsRecorded r) (frames : HasFrames r) (faultless : IsFaultless r) (requests : RequestsAll r) (tags : HasTags r) (Before : ℕ → ℕ → Type 0) (orders : Orders Before r) (lists : OrdersElements Before r)
    (stalled_more : StalledMore) (owed_rest : OwedListsRest Before r) (sends : SendsNothing r)
    (D : List ℕ) (j : ℕ) (M : State) (front : IsFront Before r.size D j) (describes : Describes r D M) (shown : Describes r (range_with_len 0 j) (r.state j)) (bytes : HasSameBytes M (r.state j)) (p c e k : ℕ) (step_is : r.step j ≡ Piece p c e k) where
  is_of : is_step_of p c (r.step j) ≡ true
  is_of = ap (is_step_of p c) step_is ∙ rw (eq-eqb p p refl, eq-eqb c c refl) refl

  abbrev K : Spe
  K = spe_before r p j

  abbrev P : Spe
  P = spe_in M p

  abbrev m : MainMemory
  m = (r.state j).memory

  own_step : IsOwn r j p
  own_step = p_own r rec frames j front.low p c e k step_is

  low_p : p < count_of r
  low_p = own_step.low

  of_P : DescribesSpe r p D P
  of_P = describes.spes p low_p

  of_K : DescribesSpe r p (range_with_len 0 j) K
  of_K = shown.spes p low_p

  abbrev copied : IsPiece m K c e k (p_own r rec frames j front.low p c e k step_is).left
  copied = p_copied r rec frames j front.low p c e k step_is

  abbrev command : Command
  command = copied.command

  abbrev element : Element
  element = copied.element

  unsent : is_signal command.kind ≡ false
  unsent = sends j p c command (let l = front.low in omega (arith, l)) low_p copied.at

  effect_K : copy_effect p (is_put command.kind) (part_in element k) (p_own r rec frames j front.low p c e k step_is).left.spe ≡ r.effect j
  effect_K =
      let left = (p_own r rec frames j front.low p c e k step_is).left in
      let n = length (r.state j).spes in
      sym (copied_part n p command (part_in element k) left unsent)
      ∙ some_same _ _ (sym (ap (option_and_then (λ (x : Left). of_command K c (piece_effect n p c k K x))) (ap (λ s. own m s K) (sym step_is) ∙ (p_own r rec frames j front.low p c e k step_is).owns)
      ∙ ap (λ o. option_and_then (piece_effect n p c k K left) o) copied.at ∙ ap (option_map (λ x. part_effect n p command (part_in x k) left)) copied.present_is)
      ∙ ap (λ s. own_effect n p m s K) (sym step_is) ∙ (p_own r rec frames j front.low p c e k step_is).effect)

  cut : IsCut r.size (λ i. is_elem p c (r.step i)) D j
  cut i low h = elim (cases_order i j) [
    | inl same ↦ absurd (false≢true (sym (ap (is_elem p c) (ap (λ i. r.step i) same ∙ step_is)) ∙ h))
    | inr (inl less) ↦ front.past i low (lists.element_pieces i j p c e k less front.low (elem_of p c (r.step i) h) step_is) ∙ sym (lt-ltb i j less)
    | inr (inr above) ↦ not_so (has D i) (λ t. front.future i low t (lists.piece_element j i p c e k above low step_is (elem_of p c (r.step i) h))) ∙ sym (ge_not i j above)
  ]
    where
      ge_not : (i j : ℕ) → j < i → nat_lt i j ≡ false
      ge_not i j h = grind (arith, nat_tests)

      not_so : (b : Bool) → (b ≡ true → ⊥) → b ≡ false
      not_so true h = absurd (h refl)
      not_so false h = refl

  read_same : read_of P.moves.read c ≡ read_of K.moves.read c
  read_same = read_at r frames Before orders D j M front describes shown p low_p c cut

  present_P : present P.moves.read c command ≡ Some element
  present_P = present_same K.moves P.moves c command read_same ∙ copied.present_is

  not_done : is_done P.moves.done c e k ≡ false
  not_done = elim (cases_Bool (is_done P.moves.done c e k)) [
    | inr h ↦ h
    | inl h ↦ absurd (twice (done_is r p c e k D P.moves.done of_P.done h))
  ]
    where
      twice : (i : ℕ) × (has D i ≡ true) × (r.step i ≡ Piece p c e k) → ⊥
      twice t = elim (cases_order t.0 j) [
        | inl same ↦ false≢true (sym front.fresh ∙ sym (ap (has D) same) ∙ t.1)
        | inr (inl less) ↦ false≢true (sym (p_not_done r rec frames j front.low p c e k step_is) ∙ done_from r p c e k (range_with_len 0 j) K.moves.done of_K.done t.0 (has_below j t.0 less) t.2)
        | inr (inr above) ↦ once r rec frames p c e k low_p j t.0 above (describes.inside t.0 t.1) step_is t.2
      ]

  issued_there : slice_get P.moves.issued c ≡ Some command
  issued_there = same_commands r frames Before orders D j M front describes shown p low_p c is_of c (omega arith) ∙ copied.at

  left_P : is_part_left P.moves.done c e k element ≡ true
  left_P =
      let t = both (element.number == e && nat_lt k (parts_in element)) (not (is_done K.moves.done c e k)) (p_parts r rec frames j front.low p c e k step_is).1 in
      ap (λ b. b && not (is_done P.moves.done c e k)) t.0 ∙ ap not not_done

  has_P : has_part P.moves c e k command ≡ true
  has_P = ap (λ b. b && option_map_or (is_part_left P.moves.done c e k) (present P.moves.read c command) false) (p_parts r rec frames j front.low p c e k step_is).0 ∙ ap (λ o. option_map_or (is_part_left P.moves.done c e k) o false) present_P ∙ left_P

  may_there : may_piece P c e k ≡ true
  may_there =
      may_by P c e k command (sound_there r frames Before orders D j M front describes shown p low_p faultless) issued_there has_P
      (begins_there r frames Before orders D j M front describes shown p low_p c is_of (may-begun K c (has_part K.moves c e k) (may_of_is K c e k copied.may)))

  abbrev X : Left
  X = part_left M.memory P c k command element

  made_P : piece M.memory P c e k ≡ Some X
  made_P = piece-made M.memory P c e k command element may_there issued_there present_P

  leaves : Leaves r frames requests tags D j front.low p low_p c is_of P of_P X.spe
  leaves = record {
    program = refl;
    same_tags = refl;
    read = sym (append-nil P.moves.read) ∙ ap (λ o. P.moves.read ++ listed o) (sym (ap (λ s. element_by p s (spe_before r p (suc j))) step_is));
    done = ap (λ n. P.moves.done ++ record { cmd = c; elem = n; part = k } ∷ []) copied.number ∙ ap (λ o. P.moves.done ++ listed o) (sym (p_listed r rec frames j front.low p c e k step_is));
    retired = sym (append-nil P.moves.retired) ∙ ap (λ o. P.moves.retired ++ listed o) (sym (ap (retired_by p) step_is));
    elements = λ b. shows_skip r.size (λ i. is_elem p b (r.step i)) (λ x. read_of (spe_before r p x).moves.read b) D j (read_of P.moves.read b) (read_of P.moves.read b) (ap (is_elem p b) step_is) refl (of_P.elements b);
    locking = refl;
    boxes = λ i. refl;
    heard = refl;
    later = record { issued = refl; complete = (done-keeps P.moves c element.number k).complete };
    stalls = stalls_are stalled_more P.moves (with_done P.moves c element.number k) c command (owes r p of_P.program.place) P.channels.stalls refl issued_there (left_not P.moves c e k command element present_P left_P) (λ b ne. done-elsewhere P.moves c element.number k b ne)
        (λ owed. owed_rest D j of_P.program.place p c command front low_p of_P.program.within of_P.program.cut owed is_of copied.at) of_P.program.stalls;
  }

  long : length X.memory.bytes ≡ length M.memory.bytes
  long =
      ap length (memory_same m M.memory K P (is_put command.kind) (part_in element k) bytes.memory (bytes.stores p))
      ∙ ap (λ (x : Left). length x.memory.bytes) (sym copied.is) ∙ ap (λ (n : MainMemory). length n.bytes) (sym (p_own r rec frames j front.low p c e k step_is).memory)
      ∙ (rec.sound (suc j) front.low).long ∙ sym (rec.sound j (let l = front.low in omega (arith, l))).long ∙ ap length (sym bytes.memory)

  line : stored_by (r.state j) (r.step j) ≡ cond (is_put command.kind) (Some ((part_in element k).ea / 128)) None
  line =
      ap (stored_by (r.state j)) step_is
      ∙ ap (option_and_then (λ (P : Spe). option_and_then (stored_by_piece P.moves c k) (slice_get P.moves.issued c))) (get_in (r.state j).spes p (omega (arith, low_p, frames.count j (let l = front.low in omega (arith, l)))))
      ∙ ap (option_and_then (stored_by_piece K.moves c k)) copied.at ∙ ap (λ o. cond (is_put command.kind) (option_map (λ x. (part_in x k).ea / 128) o) None) copied.present_is

  pub makes : MakesStep r D j M
  makes =
      made_in r rec frames j front.low p (ap (λ s. maker s) step_is) D M X (copy_effect p (is_put command.kind) (part_in element k) X.spe) low_p describes
      (ap (λ s. own M.memory s P) step_is ∙ made_P)
      (ap (λ s. own_effect (length M.spes) p M.memory s P) step_is ∙ ap (option_and_then (λ (x : Left). of_command P c (piece_effect (length M.spes) p c k P x))) made_P
      ∙ ap (λ o. option_and_then (piece_effect (length M.spes) p c k P X) o) issued_there ∙ ap (option_map (λ x. part_effect (length M.spes) p command (part_in x k) X)) present_P
      ∙ ap Some (copied_part (length M.spes) p command (part_in element k) X unsent))
      (record { fetch = ap (λ (e : Effect). e.fetch) effect_K; reads = ap (λ (e : Effect). e.reads) effect_K; writes = ap (λ (e : Effect). e.writes) effect_K })
      (ap (written_by M) step_is ∙ piece_wrote M p c e k P command (get_in M.spes p (omega (arith, low_p, describes.count))) issued_there
      ∙ sym (piece_wrote (r.state j) p c e k K command (get_in (r.state j).spes p (omega (arith, low_p, shown.count))) copied.at) ∙ sym (ap (written_by (r.state j)) step_is))
      (described r frames requests tags D j front.low p low_p c is_of P of_P X.spe leaves) long
      (versions_after M.memory P (is_put command.kind) (part_in element k) ∙ ap (λ o. option_map_or (raised M.memory.versions) o M.memory.versions) (sym line))
      (ap (λ b. cond b (Some (delivery P (part_in element k))) None) unsent)
