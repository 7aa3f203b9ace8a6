-- A retirement, in another order.
use Rattle.std.proofs.Common.{length, ◌≡◌, ℕ, suc, ◌<◌, refl, sym, ◌∙◌, ap, arith, Bool, true, false, List, [], ◌∷◌, ◌++◌, Some, cond, inl, inr, append-nil}
use Rattle.std.specs.Prelude.{slice_get, ◌==◌, ◌||◌, not}
use Rattle.std.specs.List.{range_with_len}
use Rattle.std.specs.Option.{option_map, option_map_or}
use Rattle.std.proofs.lemmas.Bool.{cases_order, cases_Bool, eq-eqb, false≢true}
use Rattle.cell_base.specs.declared.steps.Step.TheVariants.{Retire}
use Rattle.mfc_command.specs.declared.command.Command.{Command}
use Rattle.cell_machine.specs.Spe.{Spe, Moves, is_faulted}
use Rattle.cell_machine.specs.State.{State}
use Rattle.cell_machine.specs.Moves.{read_of, stall_of, is_moved, was_retired, may_begin, is_complete, is_complete_as}
use Rattle.cell_machine.specs.Order.{is_step_of}
use Rattle.cell_machine.specs.EffectLaws.{maker}
use Rattle.cell_machine.specs.Transfers.{may_of, may_retire, is_left, with_retired}
use Rattle.cell_machine.specs.Effects.{plain_effect}
use Rattle.cell_machine.specs.Next.{own, left}
use Rattle.cell_machine.specs.Written.{written_by}
use Rattle.cell_machine.proofs.Bounds.{passes, may-begun}
use Rattle.cell_machine.proofs.StepBytes.{own_effect, retire-is}
use Rattle.cell_machine.proofs.Same.{complete-at}
use Rattle.cell_machine.proofs.Staying.{retired-keeps, get_more, both, not_true}
use Rattle.reorder_laws.proofs.Controlling.{retire-made}
use Rattle.reorder_laws.specs.Cuts.{has, IsFront}
use Rattle.reorder_laws.specs.Recorded.{Recorded, IsRecorded, count_of, spe_in, spe_before, is_elem, done_by, retired_by, element_by, owes, stalled_groups}
use Rattle.reorder_laws.specs.OrderLaws.{Orders}
use Rattle.reorder_laws.specs.Frames.{HasFrames, IsFaultless, listed}
use Rattle.reorder_laws.specs.Described.{Describes, DescribesSpe}
use Rattle.reorder_laws.specs.Steps.{HasSameSpans, MakesStep}
use Rattle.reorder_laws.specs.Facts.{RequestsAll, HasTags}
use Rattle.reorder_laws.proofs.Cuts.{shows_skip}
use Rattle.reorder_laws.proofs.Commands.{retired_is, retired_from, no_step, begins_there, same_commands, sound_there}
use Rattle.reorder_laws.proofs.CommandSteps.{Leaves, described}
use Rattle.std.proofs.lemmas.List.Folds.{list_any-append}
use Rattle.lock_lines.specs.Versions.{raised}
use Rattle.cell_machine.specs.Locks.{stored_by}
use Rattle.reorder_laws.proofs.Runs.{has_below}
use Rattle.reorder_laws.proofs.Making.{IsOwn, is_own, made_in}

-- may_retire by its parts
may_by : (P : Spe) (c : ℕ) (d : Command) → is_faulted P.status ≡ false → slice_get P.moves.issued c ≡ Some d → is_moved d ≡ false → was_retired P.moves.retired c ≡ false → may_begin P.moves c ≡ true → may_retire P c ≡ true
unfolding may_retire
may_by P c d a b e f g = rw (a, b, e, f, g) refl

may_of_is : (P : Spe) (c : ℕ) → may_retire P c ≡ true → may_of P c (is_left P.moves c) ≡ true
unfolding may_retire
may_of_is P c h = h

complete_by : (m : Moves) (c : ℕ) (d : Command) → is_moved d ≡ false → is_complete_as m c d ≡ was_retired m.retired c
unfolding is_complete_as
complete_by m c d h = rw h refl

or_true : (x : Bool) → (x || true) ≡ true
or_true true = refl
or_true false = refl

groups_same : (m : Moves) (c : ℕ) → stalled_groups (with_retired m c) ≡ stalled_groups m
unfolding stalled_groups stall_of
groups_same m c = refl

retire_wrote : (M N : State) (p c : ℕ) → written_by M (Retire p c) ≡ written_by N (Retire p c)
unfolding written_by
retire_wrote M N p c = refl

module _ (r : Recorded) (rec : IsRecorded r) (frames : HasFrames r) (j : ℕ) (low : j < r.size) (p c : ℕ) (step_is : r.step j ≡ Retire p c) where
  r_is_of : is_step_of p c (r.step j) ≡ true
  r_is_of = ap (is_step_of p c) step_is ∙ rw (eq-eqb p p refl, eq-eqb c c refl) refl

  abbrev RK : Spe
  RK = spe_before r p j

  r_own_step : IsOwn r j p
  r_own_step = is_own r rec frames j low p (ap (λ s. maker s) step_is)

  r_low_p : p < count_of r
  r_low_p = r_own_step.low

  r_recalls : (may_retire RK c ≡ true) × HasSameSpans (plain_effect RK) (r.effect j)
  r_recalls =
      retire-is (length (r.state j).spes) p p c (r.state j).memory RK r_own_step.left (r.effect j) (λ x e. (may_retire RK c ≡ true) × HasSameSpans (plain_effect RK) e)
      (ap (λ s. own (r.state j).memory s RK) (sym step_is) ∙ r_own_step.owns) (ap (λ s. own_effect (length (r.state j).spes) p (r.state j).memory s RK) (sym step_is) ∙ r_own_step.effect)
      (λ may. (may, record { fetch = refl; reads = refl; writes = refl }))

  r_command : (d : Command) × (slice_get RK.moves.issued c ≡ Some d) × (is_complete RK.moves c ≡ false)
  r_command = frames.there j p c low r_low_p r_is_of

  r_passed : (is_moved r_command.0 ≡ false) × (was_retired RK.moves.retired c ≡ false)
  r_passed =
      let t = both (not (is_moved r_command.0)) (not (was_retired RK.moves.retired c)) (passes RK c (is_left RK.moves c) r_command.0 (may_of_is RK c r_recalls.0) r_command.1) in
      (not_true (is_moved r_command.0) t.0, not_true (was_retired RK.moves.retired c) t.1)

  r_at_next : slice_get (spe_before r p (suc j)).moves.issued c ≡ Some r_command.0
  r_at_next = let g = frames.grows j p low r_low_p in ap (λ xs. slice_get xs c) g.1 ∙ get_more RK.moves.issued g.0 c r_command.0 r_command.1

  r_retires : retired_by p (r.step j) ≡ Some c
  r_retires = ap (retired_by p) step_is ∙ rw (eq-eqb p p refl) refl

  pub retire_completes : is_complete (spe_before r p (suc j)).moves c ≡ true
  retire_completes =
      complete-at (spe_before r p (suc j)).moves c r_command.0 r_at_next
      ∙ complete_by (spe_before r p (suc j)).moves c r_command.0 r_passed.0
      ∙ ap (λ xs. was_retired xs c) (frames.retired j p low r_low_p ∙ ap (λ o. RK.moves.retired ++ listed o) r_retires)
      ∙ list_any-append (λ d. d == c) RK.moves.retired (c ∷ [])
      ∙ ap (λ b. was_retired RK.moves.retired c || (b || false)) (eq-eqb c c refl) ∙ or_true (was_retired RK.moves.retired c)

module _ (r : Recorded) (rec : IsRecorded r) (frames : HasFrames r) (faultless : IsFaultless r) (requests : RequestsAll r) (tags : HasTags r) (Before : ℕ → ℕ → Type 0) (orders : Orders Before r)
    (D : List ℕ) (j : ℕ) (M : State) (front : IsFront Before r.size D j) (describes : Describes r D M) (shown : Describes r (range_with_len 0 j) (r.state j)) (p c : ℕ) (step_is : r.step j ≡ Retire p c) where
  is_of : is_step_of p c (r.step j) ≡ true
  is_of = r_is_of r rec frames j front.low p c step_is

  abbrev K : Spe
  K = spe_before r p j

  abbrev P : Spe
  P = spe_in M p

  low_p : p < count_of r
  low_p = r_low_p r rec frames j front.low p c step_is

  recalls : (may_retire K c ≡ true) × HasSameSpans (plain_effect K) (r.effect j)
  recalls = r_recalls r rec frames j front.low p c step_is

  abbrev command : (d : Command) × (slice_get K.moves.issued c ≡ Some d) × (is_complete K.moves c ≡ false)
  command = r_command r rec frames j front.low p c step_is

  passed : (is_moved command.0 ≡ false) × (was_retired K.moves.retired c ≡ false)
  passed = r_passed r rec frames j front.low p c step_is

  retires : retired_by p (r.step j) ≡ Some c
  retires = r_retires r rec frames j front.low p c step_is

  complete_next : is_complete (spe_before r p (suc j)).moves c ≡ true
  complete_next = retire_completes r rec frames j front.low p c step_is

  of_P : DescribesSpe r p D P
  of_P = describes.spes p low_p

  of_K : DescribesSpe r p (range_with_len 0 j) K
  of_K = shown.spes p low_p

  not_retired : was_retired P.moves.retired c ≡ false
  not_retired = elim (cases_Bool (was_retired P.moves.retired c)) [
    | inr h ↦ h
    | inl h ↦ absurd (twice (retired_is r p c D P.moves.retired of_P.retired h))
  ]
    where
      twice : (i : ℕ) × (has D i ≡ true) × (r.step i ≡ Retire p c) → ⊥
      twice t = elim (cases_order t.0 j) [
        | inl e ↦ false≢true (sym front.fresh ∙ sym (ap (has D) e) ∙ t.1)
        | inr (inl less) ↦ false≢true (sym passed.1 ∙ retired_from r p c (range_with_len 0 j) K.moves.retired of_K.retired t.0 (has_below j t.0 less) t.2)
        | inr (inr more) ↦ no_step r frames p low_p c (suc j) t.0 more (describes.inside t.0 t.1) complete_next (ap (is_step_of p c) t.2 ∙ rw (eq-eqb p p refl, eq-eqb c c refl) refl)
      ]

  may_there : may_retire P c ≡ true
  may_there =
      may_by P c command.0 (sound_there r frames Before orders D j M front describes shown p low_p faultless)
      (same_commands r frames Before orders D j M front describes shown p low_p c is_of c (omega arith) ∙ command.1) passed.0 not_retired
      (begins_there r frames Before orders D j M front describes shown p low_p c is_of (may-begun K c (is_left K.moves c) (may_of_is K c recalls.0)))

  abbrev Q : Spe
  Q = record P { moves = with_retired P.moves c }

  leaves : Leaves r frames requests tags D j front.low p low_p c is_of P of_P Q
  leaves = record {
    program = refl;
    same_tags = refl;
    read = sym (append-nil P.moves.read) ∙ ap (λ o. P.moves.read ++ listed o) (sym (ap (λ s. element_by p s (spe_before r p (suc j))) step_is));
    done = sym (append-nil P.moves.done) ∙ ap (λ o. P.moves.done ++ listed o) (sym (ap (done_by p) step_is));
    retired = ap (λ o. P.moves.retired ++ listed o) (sym retires);
    elements = λ b. shows_skip r.size (λ i. is_elem p b (r.step i)) (λ x. read_of (spe_before r p x).moves.read b) D j (read_of P.moves.read b) (read_of P.moves.read b) (ap (is_elem p b) step_is) refl (of_P.elements b);
    locking = refl;
    boxes = λ m. refl;
    heard = refl;
    later = record { issued = refl; complete = (retired-keeps P.moves c).complete };
    stalls = of_P.program.stalls ∙ ap (cond (owes r p of_P.program.place) 0) (sym (groups_same P.moves c));
  }

  pub makes : MakesStep r D j M
  makes =
      made_in r rec frames j front.low p (ap (λ s. maker s) step_is) D M (left M.memory Q) (plain_effect Q) low_p describes
      (ap (λ s. own M.memory s P) step_is ∙ ap (option_map (left M.memory)) (retire-made P c may_there))
      (ap (λ s. own_effect (length M.spes) p M.memory s P) step_is ∙ ap (option_map plain_effect) (retire-made P c may_there))
      (record { fetch = recalls.1.fetch; reads = recalls.1.reads; writes = recalls.1.writes })
      (ap (written_by M) step_is ∙ wrote M (r.state j) ∙ sym (ap (written_by (r.state j)) step_is))
      (described r frames requests tags D j front.low p low_p c is_of P of_P Q leaves) refl
      (sym (ap (λ s. option_map_or (raised M.memory.versions) (stored_by (r.state j) s) M.memory.versions) step_is)) refl
    where
      wrote : (M N : State) → written_by M (Retire p c) ≡ written_by N (Retire p c)
      wrote M N = retire_wrote M N p c
