-- The reading of a list's element, in another order.
use Rattle.std.proofs.Common.{◌≡◌, ℕ, suc, ◌+◌, ◌*◌, ◌<◌, ◌≤◌, refl, sym, ◌∙◌, ap, subst, arith, Bool, true, false, List, [], ◌∷◌, ◌++◌, length, Option, Some, None, cond, inl, inr, append-nil}
use Rattle.std.specs.Prelude.{slice_get, ◌/◌, ◌==◌, ◌&&◌, not, nat_lt, Result, Ok, Err, option_and_then}
use Rattle.std.specs.List.{range_with_len, last_or, list_all}
use Rattle.std.specs.Option.{option_map, option_map_or}
use Rattle.std.proofs.lemmas.Bool.{cases_eq, cases_lt, eq-eqb, false≢true, lt-ltb}
use Rattle.std.proofs.lemmas.Bool.Decides.{nat_tests}
use Rattle.cell_base.specs.declared.steps.Step.TheVariants.{Elem}
use Rattle.lock_lines.specs.Versions.{raised}
use Rattle.local_store.specs.Store.{word_at}
use Rattle.mfc_command.specs.declared.command.Command.{Command}
use Rattle.mfc_command.specs.declared.command.DmaFault.{DmaFault as Fault}
use Rattle.mfc_command.specs.Order.{is_list}
use Rattle.mfc_lists.specs.declared.Element.{Element}
use Rattle.mfc_lists.specs.Elements.{element_of}
use Rattle.cell_machine.specs.declared.effect.Effect.{Effect}
use Rattle.cell_machine.specs.Spe.{Spe, Moves, is_faulted}
use Rattle.cell_machine.specs.State.{State}
use Rattle.cell_machine.specs.Memory.{MainMemory, lines_of}
use Rattle.cell_machine.specs.Moves.{read_of, are_all_there, is_at_rest, is_finished, is_stalled, may_begin, elements_of, elements_in, whole}
use Rattle.cell_machine.specs.Order.{is_step_of}
use Rattle.cell_machine.specs.Tags.{settled}
use Rattle.cell_machine.specs.EffectLaws.{maker}
use Rattle.cell_machine.specs.Transfers.{Left, may_of, may_elem, has_element, next_element, next_at, with_read}
use Rattle.cell_machine.specs.Effects.{elem_effect, of_command, in_store}
use Rattle.cell_machine.specs.Next.{own, left}
use Rattle.cell_machine.specs.Transfers.{elem}
use Rattle.cell_machine.specs.Locks.{stored_by}
use Rattle.cell_machine.specs.Written.{written_by}
use Rattle.cell_machine.proofs.Bounds.{passes, may-begun}
use Rattle.cell_machine.proofs.LocksRun.{map-is}
use Rattle.cell_machine.proofs.StepBytes.{own_effect}
use Rattle.cell_machine.proofs.Same.{read-more, read-elsewhere, some_same, eq_off}
use Rattle.cell_machine.proofs.Staying.{read-keeps, both, not_true, IsMore}
use Rattle.reorder_laws.specs.Silent.{silent}
use Rattle.reorder_laws.specs.Controllers.{element_left, IsElem}
use Rattle.reorder_laws.proofs.Controlling.{elem-made, elem-leaves}
use Rattle.reorder_laws.specs.Cuts.{has, IsFront, IsCut, Shows}
use Rattle.reorder_laws.specs.Recorded.{Recorded, IsRecorded, count_of, spe_in, spe_before, is_elem, done_by, retired_by, element_by, element_at, owes}
use Rattle.reorder_laws.specs.OrderLaws.{Orders, OrdersElements}
use Rattle.reorder_laws.specs.Frames.{HasFrames, IsFaultless, listed}
use Rattle.reorder_laws.specs.Described.{Describes, DescribesSpe}
use Rattle.reorder_laws.specs.Steps.{HasSameSpans, HasSameBytes, MakesStep}
use Rattle.reorder_laws.specs.Facts.{RequestsAll, HasTags, OwedListsRest, StalledMore}
use Rattle.reorder_laws.proofs.Cuts.{shows_skip, shows_step}
use Rattle.reorder_laws.proofs.Commands.{StandsTo, StepOf, IsElem as AnElem, IsPiece as APiece, IsRetire as ARetire, step_of, elem_of, more_of, no_step, begins_there, same_commands, sound_there}
use Rattle.reorder_laws.proofs.CommandSteps.{Leaves, described}
use Rattle.reorder_laws.proofs.Making.{IsOwn, is_own, made_in}
use Rattle.reorder_laws.proofs.Retiring.{retire_completes}
use Rattle.reorder_laws.proofs.Stalling.{rest-more, stalls_are}

-- may_elem by its parts, and its parts
may_by : (P : Spe) (c : ℕ) (d : Command) → is_faulted P.status ≡ false → slice_get P.moves.issued c ≡ Some d → has_element P.moves c d ≡ true → may_begin P.moves c ≡ true → may_elem P c ≡ true
unfolding may_elem
may_by P c d a b e f = on (is_list d.kind) (are_all_there P.moves.read c d) (is_at_rest P.moves c d) e
  where
    on : (x y z : Bool) → (x && not y && z) ≡ true → (not (is_faulted P.status) && (option_map_or (λ d. is_list d.kind && not (are_all_there P.moves.read c d) && is_at_rest P.moves c d) (slice_get P.moves.issued c) false && may_begin P.moves c)) ≡ true
    on x y z h = rw (a, b, e, f) refl

may_of_is : (P : Spe) (c : ℕ) → may_elem P c ≡ true → may_of P c (has_element P.moves c) ≡ true
unfolding may_elem
may_of_is P c h = h

elem_wrote : (M N : State) (p c : ℕ) → written_by M (Elem p c) ≡ written_by N (Elem p c)
unfolding written_by
elem_wrote M N p c = refl

last_snoc : (xs : List Element) (x : Element) (o : Option Element) → last_or o (xs ++ x ∷ []) ≡ Some x
last_snoc [] x o = refl
last_snoc (y ∷ xs) x o = last_snoc xs x (Some y)

next_same : (lines k : ℕ) (K P : Spe) (c : ℕ) (d : Command) → lines ≡ k → P.store ≡ K.store → read_of P.moves.read c ≡ read_of K.moves.read c → next_element lines P c d ≡ next_element k K c d
next_same lines k K P c d a b e =
    ap (λ n. next_element n P c d) a
    ∙ ap (λ xs. element_of d.ls xs k (word_at P.store (d.ea + 8 * length xs)) (word_at P.store (d.ea + 8 * length xs + 4))) e
    ∙ ap (λ s. element_of d.ls (read_of K.moves.read c) k (word_at s (next_at K.moves c d)) (word_at s (next_at K.moves c d + 4))) b

module _ (r : Recorded) (rec : IsRecorded r) (frames : HasFrames r) (faultless : IsFaultless r) (requests : RequestsAll r) (tags : HasTags r) (Before : ℕ → ℕ → Type 0) (orders : Orders Before r) (lists : OrdersElements Before r)
    (stalled_more : StalledMore) (owed_rest : OwedListsRest Before r)
    (D : List ℕ) (j : ℕ) (M : State) (front : IsFront Before r.size D j) (describes : Describes r D M) (shown : Describes r (range_with_len 0 j) (r.state j)) (bytes : HasSameBytes M (r.state j)) (p c : ℕ) (step_is : r.step j ≡ Elem p c) where
  is_of : is_step_of p c (r.step j) ≡ true
  is_of = ap (is_step_of p c) step_is ∙ rw (eq-eqb p p refl, eq-eqb c c refl) refl

  abbrev K : Spe
  K = spe_before r p j

  abbrev P : Spe
  P = spe_in M p

  abbrev m : MainMemory
  m = (r.state j).memory

  own_step : IsOwn r j p
  own_step = is_own r rec frames j front.low p (ap (λ s. maker s) step_is)

  low_p : p < count_of r
  low_p = own_step.low

  of_P : DescribesSpe r p D P
  of_P = describes.spes p low_p

  -- ---- the recorded step

  abbrev made : (Q : Spe) × (elem (lines_of m) K c ≡ Some Q) × (left m Q ≡ own_step.left)
  made = map-is (left m) (elem (lines_of m) K c) own_step.left (ap (λ s. own m s K) (sym step_is) ∙ own_step.owns)

  read_K : IsElem (lines_of m) K c made.0
  read_K = elem-leaves (lines_of m) K c made.0 made.1

  abbrev command : Command
  command = read_K.command

  spans_K : HasSameSpans (elem_effect (lines_of m) p c K made.0 command) (r.effect j)
  spans_K =
      let e : elem_effect (lines_of m) p c K made.0 command ≡ r.effect j =
      some_same _ _ (sym (ap (option_and_then (λ Q. of_command K c (λ d. Some (elem_effect (lines_of m) p c K Q d)))) made.1 ∙ ap (λ o. option_and_then (λ d. Some (elem_effect (lines_of m) p c K made.0 d)) o) read_K.at)
      ∙ ap (λ s. own_effect (length (r.state j).spes) p m s K) (sym step_is) ∙ own_step.effect) in
      record { fetch = ap (λ (e : Effect). e.fetch) e; reads = ap (λ (e : Effect). e.reads) e; writes = ap (λ (e : Effect). e.writes) e }

  -- the element isn't at fault
  element : (x : Element) × (next_element (lines_of m) K c command ≡ Ok x)
  element = on (next_element (lines_of m) K c command) refl
    where
      on : (o : Result Element Fault) → next_element (lines_of m) K c command ≡ o → (x : Element) × (next_element (lines_of m) K c command ≡ Ok x)
      on (Ok x) e = (x, e)
      on (Err kind) e =
          absurd (false≢true (sym (faultless (suc j) p front.low low_p)
          ∙ ap (λ (Q : Spe). is_faulted Q.status) (own_step.after ∙ ap (λ (x : Left). silent (settled x.spe)) (sym made.2) ∙ ap (λ Q. silent (settled Q)) (read_K.is ∙ ap (element_left K c command) e))))

  after_K : (spe_before r p (suc j)).moves ≡ with_read K.moves c element.0
  after_K =
      ap (λ (Q : Spe). Q.moves) (own_step.after ∙ ap (λ (x : Left). silent (settled x.spe)) (sym made.2) ∙ ap (λ Q. silent (settled Q)) (read_K.is ∙ ap (element_left K c command) element.1))

  -- ---- the command in P

  not_later : (i : ℕ) → j < i → i < r.size → is_elem p c (r.step i) ≡ true → has D i ≡ false
  not_later i more low h = not_so (has D i) (λ t. front.future i low t (lists.elements j i p c more low step_is (elem_of p c (r.step i) h)))
    where
      not_so : (b : Bool) → (b ≡ true → ⊥) → b ≡ false
      not_so true h = absurd (h refl)
      not_so false h = refl

  before_j : (i : ℕ) → i < j → is_step_of p c (r.step i) ≡ true → Before i j
  before_j i less h = on (step_of p c (r.step i) h)
    where
      on : StepOf p c (r.step i) → Before i j
      on (AnElem e) = lists.elements i j p c less front.low e step_is
      on (APiece a b e) = lists.piece_element i j p c a b less front.low e step_is
      on (ARetire e) = absurd (no_step r frames p low_p c (suc i) j less front.low (retire_completes r rec frames i (let l = front.low in omega (arith, l, less)) p c e) is_of)

  stands : StandsTo r frames Before orders D j M front describes shown p low_p c
  stands = record {
    past = λ i less h. front.past i (let l = front.low in omega (arith, l, less)) (before_j i less h);
    later = λ i more low h. elim (cases_eq i j) [
      | inl e ↦ ap (has D) e ∙ front.fresh
      | inr ne ↦ not_later i (omega (arith, more, ne)) low h
    ];
    resumed = λ i less ack. front.past i (let l = front.low in omega (arith, l, less)) (orders.resumed i j p c ack.command less front.low ack.step ack.stalled ack.is ack.tag is_of);
  }

  more : IsMore K.moves P.moves c
  more = more_of r frames Before orders D j M front describes shown p low_p c stands

  issued_there : slice_get P.moves.issued c ≡ Some command
  issued_there = same_commands r frames Before orders D j M front describes shown p low_p c is_of c (omega arith) ∙ read_K.at

  parts_K : ((is_list command.kind && not (are_all_there K.moves.read c command)) ≡ true) × (is_at_rest K.moves c command ≡ true)
  parts_K = both (is_list command.kind && not (are_all_there K.moves.read c command)) (is_at_rest K.moves c command) (passes K c (has_element K.moves c) command (may_of_is K c read_K.may) read_K.at)

  parts_P : ((is_list command.kind && not (are_all_there P.moves.read c command)) ≡ true) × (is_at_rest P.moves c command ≡ true)
  parts_P = (
    ap (λ xs. is_list command.kind && not (length (cond (is_list command.kind) xs (whole command ∷ [])) == elements_in command)) more.read ∙ parts_K.0,
    rest-more K.moves P.moves c command more parts_K.1,
  )

  may_there : may_elem P c ≡ true
  may_there =
      may_by P c command (sound_there r frames Before orders D j M front describes shown p low_p faultless) issued_there
      (ap (λ b. b && is_at_rest P.moves c command) parts_P.0 ∙ parts_P.1)
      (begins_there r frames Before orders D j M front describes shown p low_p c is_of (may-begun K c (has_element K.moves c) (may_of_is K c read_K.may)))

  element_P : next_element (lines_of M.memory) P c command ≡ Ok element.0
  element_P = next_same (lines_of M.memory) (lines_of m) K P c command (ap (λ bytes. length bytes / 128) bytes.memory) (bytes.stores p) more.read ∙ element.1

  abbrev Q : Spe
  Q = element_left P c command (Ok element.0)

  made_P : elem (lines_of M.memory) P c ≡ Some Q
  made_P = elem-made (lines_of M.memory) P c command may_there issued_there ∙ ap (λ o. Some (element_left P c command o)) element_P

  read_both : read_of Q.moves.read c ≡ read_of (spe_before r p (suc j)).moves.read c
  read_both =
      read-more P.moves c element.0 ∙ ap (λ xs. xs ++ element.0 ∷ []) more.read ∙ sym (read-more K.moves c element.0) ∙ ap (λ (n : Moves). read_of n.read c) (sym after_K)

  element_is : element_at r p j ≡ Some (record { cmd = c; element = element.0 })
  element_is =
      ap (λ s. element_by p s (spe_before r p (suc j))) step_is
      ∙ ap (λ b. cond b (option_map (λ x. record { cmd = c; element = x }) (last_or None (read_of (spe_before r p (suc j)).moves.read c))) None) (eq-eqb p p refl)
      ∙ ap (λ xs. option_map (λ x. record { cmd = c; element = x }) (last_or None xs)) (ap (λ (n : Moves). read_of n.read c) after_K ∙ read-more K.moves c element.0)
      ∙ ap (option_map (λ x. record { cmd = c; element = x })) (last_snoc (read_of K.moves.read c) element.0 None)

  cut : IsCut r.size (λ i. is_elem p c (r.step i)) D j
  cut i low h = elim (cases_lt i j) [
    | inl less ↦ stands.past i less (elem_step i h) ∙ sym (lt-ltb i j less)
    | inr above ↦ stands.later i above low h ∙ sym (ge_not i j above)
  ]
    where
      ge_not : (i j : ℕ) → j ≤ i → nat_lt i j ≡ false
      ge_not i j h = grind (arith, nat_tests)

      elem_step : (i : ℕ) → is_elem p c (r.step i) ≡ true → is_step_of p c (r.step i) ≡ true
      elem_step i h = ap (is_step_of p c) (elem_of p c (r.step i) h) ∙ rw (eq-eqb p p refl, eq-eqb c c refl) refl

  elements : (b : ℕ) → Shows r.size (λ i. is_elem p b (r.step i)) (λ x. read_of (spe_before r p x).moves.read b) (D ++ j ∷ []) (read_of Q.moves.read b)
  elements b = elim (cases_eq c b) [
    | inl e ↦ subst (λ b. Shows r.size (λ i. is_elem p b (r.step i)) (λ x. read_of (spe_before r p x).moves.read b) (D ++ j ∷ []) (read_of Q.moves.read b)) e
        (shows_step r.size (λ i. is_elem p c (r.step i)) (λ x. read_of (spe_before r p x).moves.read c) D j (read_of Q.moves.read c) front.low cut read_both)
    | inr ne ↦ shows_skip r.size (λ i. is_elem p b (r.step i)) (λ x. read_of (spe_before r p x).moves.read b) D j (read_of P.moves.read b) (read_of Q.moves.read b)
        (ap (is_elem p b) step_is ∙ ap (λ t. (p == p) && t) (eq_off c b ne) ∙ and_false (p == p)) (read-elsewhere P.moves c element.0 b ne).read (of_P.elements b)
  ]
    where
      and_false : (x : Bool) → (x && false) ≡ false
      and_false true = refl
      and_false false = refl

  not_stalled : is_stalled P.moves c command ≡ false
  not_stalled = not_true (is_stalled P.moves c command) (both (list_all (is_finished P.moves.done c) (elements_of P.moves.read c command)) (not (is_stalled P.moves c command)) parts_P.1).1

  leaves : Leaves r frames requests tags D j front.low p low_p c is_of P of_P Q
  leaves = record {
    program = refl;
    same_tags = refl;
    read = ap (λ o. P.moves.read ++ listed o) (sym element_is);
    done = sym (append-nil P.moves.done) ∙ ap (λ o. P.moves.done ++ listed o) (sym (ap (done_by p) step_is));
    retired = sym (append-nil P.moves.retired) ∙ ap (λ o. P.moves.retired ++ listed o) (sym (ap (retired_by p) step_is));
    elements = elements;
    locking = refl;
    boxes = λ k. refl;
    heard = refl;
    later = record { issued = refl; complete = (read-keeps P.moves c element.0 (λ y at. left_over y at)).complete };
    stalls = stalls_are stalled_more P.moves (with_read P.moves c element.0) c command (owes r p of_P.program.place) P.channels.stalls refl issued_there not_stalled (λ b ne. read-elsewhere P.moves c element.0 b ne)
        (λ owed. owed_rest D j of_P.program.place p c command front low_p of_P.program.within of_P.program.cut owed is_of read_K.at) of_P.program.stalls;
  }
    where
      left_over : (y : Command) → slice_get P.moves.issued c ≡ Some y → are_all_there P.moves.read c y ≡ false
      left_over y at =
          let same : command ≡ y = some_same command y (sym issued_there ∙ at) in
          ap (are_all_there P.moves.read c) (sym same) ∙ not_true (are_all_there P.moves.read c command) (both (is_list command.kind) (not (are_all_there P.moves.read c command)) parts_P.0).1

  pub makes : MakesStep r D j M
  makes =
      made_in r rec frames j front.low p (ap (λ s. maker s) step_is) D M (left M.memory Q) (elem_effect (lines_of M.memory) p c P Q command) low_p describes
      (ap (λ s. own M.memory s P) step_is ∙ ap (option_map (left M.memory)) made_P)
      (ap (λ s. own_effect (length M.spes) p M.memory s P) step_is ∙ ap (option_and_then (λ Q. of_command P c (λ d. Some (elem_effect (lines_of M.memory) p c P Q d)))) made_P ∙ ap (λ o. option_and_then (λ d. Some (elem_effect (lines_of M.memory) p c P Q d)) o) issued_there)
      (record { fetch = spans_K.fetch; reads = ap (λ xs. in_store p (command.ea + 8 * length xs) 8) more.read ∙ spans_K.reads; writes = spans_K.writes })
      (ap (written_by M) step_is ∙ elem_wrote M (r.state j) p c ∙ sym (ap (written_by (r.state j)) step_is))
      (described r frames requests tags D j front.low p low_p c is_of P of_P Q leaves) refl
      (sym (ap (λ s. option_map_or (raised M.memory.versions) (stored_by (r.state j) s) M.memory.versions) step_is)) refl
