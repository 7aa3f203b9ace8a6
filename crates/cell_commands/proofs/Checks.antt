-- What a check answers follows from what it calls.
use Rattle.std.proofs.Common.{◌≡◌, ℕ, ◌+◌, ◌≤◌, true, false, List, [], ◌++◌, length, take, drop, ◌-◌, Option, Some, None, Err, refl, sym, ap, subst, ◌∙◌, arith, inl, inr, length-append, length-drop}
use Rattle.std.specs.Prelude.{◌≢◌, ◌==◌, IsSomeAnd, IsErrOf}
use Rattle.cell_base.specs.declared.steps.Step.{Step}
use Rattle.cell_base.specs.Records.{spelling, AreSteps}
use Rattle.cell_machine.specs.declared.status.End.{End}
use Rattle.cell_machine.specs.State.{State}
use Rattle.cell_machine.specs.Opening.{Opening}
use Rattle.cell_machine.specs.Run.{Ran, IsRun, IsEnd, state_of}
use Rattle.cell_report.specs.States.{states_of}
use Rattle.run_record.specs.Form.{Reading, BeginsWith, IsFault}
use Rattle.run_record.specs.Replayed.{IsRefusedAt}
use Rattle.run_record.specs.declared.error.RecordError.{RecordError}
use Rattle.run_record.specs.declared.error.RecordError.TheVariants as record_error
use Rattle.cell_commands.specs.declared.fault.Fault.{Fault}
use Rattle.cell_commands.specs.declared.fault.Fault.TheVariants.{NotARun, Memory}
use Rattle.cell_commands.specs.Causes.{record_fault_of, IsOfInput}
use Rattle.cell_commands.specs.Judging.{StopsOrMemory}
use Rattle.cell_commands.specs.Checks.{BeginsWithRun, TellsEnd, RecordsRun, DifferAt, StatesDifferAt, RefusesOrMemory}
use Rattle.cell_commands.proofs.Differences.{all_taken, differ_behind}

-- ---- the record

pub bad_record : {X : Type 0} (setup : Opening) (text : List ℕ) (e : RecordError) → ((line : ℕ) → IsErrOf {T = X} (Err e) (record_error.BadLine line) → IsFault text line) → RefusesOrMemory setup text (record_fault_of e)
bad_record setup text record_error.Memory h = tt
bad_record setup text (record_error.BadLine line) h = h line refl

pub stopped : (setup : Opening) (text : List ℕ) (r : Reading) (steps : List Step) (fault : Fault) → BeginsWith text r → steps ≡ r.steps → StopsOrMemory setup steps fault → RefusesOrMemory setup text fault
stopped setup text r steps (NotARun at) b made h =
    record { format = b.1.0; steps = r.steps; behind = drop r.end text; recorded = b.0; parts = b.1.1.1; refused = subst (λ ss. IsRefusedAt setup ss at) made h }
stopped setup text r steps Memory b made h = tt
stopped setup text r steps fault b made h = absurd h

pub stopped_input : (setup : Opening) (steps : List Step) (fault : Fault) → StopsOrMemory setup steps fault → IsOfInput fault
stopped_input setup steps (NotARun at) h = tt
stopped_input setup steps Memory h = tt
stopped_input setup steps fault h = absurd h

-- the record was read, and its steps were made
module _ (setup : Opening) (text : List ℕ) (r : Reading) (b : BeginsWith text r) (steps : List Step) (made : steps ≡ r.steps) (m : Ran) (stands : m ≡ record { setup = setup; steps = steps }) (end : ℕ) (ends : end ≡ r.end) where
  same_steps : m.steps ≡ r.steps
  same_steps = ap (λ (n : Ran). n.steps) stands ∙ made

  pub ends_there : end ≤ length text
  ends_there =
      let long = ap length b.1.1.1 ∙ length-append (spelling b.1.0 r.steps) (drop r.end text) in
      let at = b.1.1.0 in
      omega (arith, ends, at, long)

  pub begins_there : IsRun setup steps → BeginsWithRun m text (drop end text)
  begins_there run = record {
    run = subst (λ (n : Ran). IsRun n.setup n.steps) (sym stands) run;
    format = b.1.0;
    recorded = subst (λ ss. AreSteps ss) (sym same_steps) b.0;
    parts = b.1.1.1 ∙ ap (λ ss. spelling b.1.0 ss ++ drop r.end text) (sym same_steps) ∙ ap (λ (k : ℕ). spelling b.1.0 m.steps ++ drop k text) (sym ends);
  }

-- ---- the states

pub not_empty : (n : ℕ) (xs : List ℕ) → (length (take (length xs - n) (drop n xs)) == 0) ≡ false → drop n xs ≢ []
not_empty n xs some e =
    let none : (length (take (length xs - n) (drop n xs)) == 0) ≡ true = ap (λ t. length t == 0) (all_taken n xs ∙ e) in
    cc

pub tells_end : (m : Ran) (text : List ℕ) → IsSomeAnd (state_of m) (λ M. (end : Option End) × IsEnd M m.setup.budget end × (text ≡ states_of M m.setup.shows end)) → TellsEnd m text
tells_end m text h = on (state_of m) refl h
  where
    on : (o : Option State) → state_of m ≡ o → IsSomeAnd o (λ M. (end : Option End) × IsEnd M m.setup.budget end × (text ≡ states_of M m.setup.shows end)) → TellsEnd m text
    on None is h = absurd h
    on (Some M) is h = record { last = M; end = h.0; there = is; ended = h.1; told = h.2 }

module _ (m : Ran) (text behind : List ℕ) (b : BeginsWithRun m text behind) where
  pub records_alone : behind ≡ [] → RecordsRun m text
  records_alone none = record { behind = behind; begins = b; states = inl none }

  pub records_states : (states : List ℕ) → TellsEnd m states → behind ≡ states → RecordsRun m text
  records_states states tells same = record { behind = behind; begins = b; states = inr (subst (TellsEnd m) (sym same) tells) }

  pub states_differ : (states : List ℕ) (end place : ℕ) → end ≤ length text → behind ≡ drop end text → behind ≢ [] → TellsEnd m states → DifferAt place behind states → StatesDifferAt m text (end + place)
  states_differ states end place within from some tells d = record {
    behind = behind;
    states = states;
    begins = b;
    some = some;
    tells = tells;
    differ =
        let long = ap length b.parts ∙ length-append (spelling b.format m.steps) behind in
        let rest = ap length from ∙ length-drop end text in
        let ends : end ≡ length (spelling b.format m.steps) = omega (arith, within, long, rest) in
        let here : DifferAt (end + place) (spelling b.format m.steps ++ behind) (spelling b.format m.steps ++ states) = subst (λ k. DifferAt (k + place) (spelling b.format m.steps ++ behind) (spelling b.format m.steps ++ states)) (sym ends) (differ_behind (spelling b.format m.steps) behind states place d) in
        subst (λ t. DifferAt (end + place) t (spelling b.format m.steps ++ states)) (sym b.parts) here;
  }
