use Rattle.std.proofs.Common.{◌≡◌, ℕ, ◌++◌, ◌∷◌, [], List, Err, get_or, length, take, sym, ap, ◌∙◌, subst}
use Rattle.std.specs.Prelude.{IsSome}
use Rattle.std.proofs.lemmas.List.{append-nil, take_all}
use Rattle.cell_base.specs.declared.steps.Step.{Step}
use Rattle.cell_base.specs.declared.steps.Step.TheVariants.{Exec}
use Rattle.cell_machine.specs.Run.{Ran, IsRun, next_of}
use Rattle.run_record.specs.Replayed.{IsRefusedAt}
use Rattle.run_record.proofs.Runs.{err_there, kept_before, more_behind, ok_there, one_refused, refused_behind, refused_is_no_run, run_goes_on}
use Rattle.run_record.proofs.replaying.make_steps.Goals as goal
use Rattle.run_record.proofs.replaying.make_steps.Goals.{After-loop-step, Then-refused}

pub loop-step-init : goal.loop-step-init
loop-step-init c =
    record {
      stands = ap (λ (xs : List Step). let m : Ran = record { setup = c.args.machine.now.setup; steps = xs } in m) (sym (append-nil c.args.machine.now.steps));
      run = subst (IsRun c.args.machine.now.setup) (sym (append-nil c.args.machine.now.steps)) c.steps-run.ensures.run;
    }

pub loop-step-preserved : goal.loop-step-preserved
loop-step-preserved c =
    let setup = c.args.machine.now.setup in
    let front = c.args.machine.now.steps in
    let i = c.loop-step.step-index in
    let step = get_or c.args.steps.now i (Exec 0) in
    let of = ok_there (λ at. (at ≡ length c.loop-step.machine.steps) × (c.step.new.self ≡ record c.loop-step.machine { steps = c.loop-step.machine.steps ++ step ∷ [] })) c.step.result (sym c.is_err-refused.ensures.value ∙ c.if-refused.false) c.step.ensures.made in
    let more = more_behind front c.args.steps.now i (Exec 0) c.loop-step-test.true in
    let allowed = subst (λ (m : Ran). IsSome (next_of m step)) c.loop-step.invariant.stands (c.step.ensures.allowed.0 of.2) in
    record {
      stands =
          of.1.1 ∙ ap (λ (m : Ran). let n : Ran = record m { steps = m.steps ++ step ∷ [] } in n) c.loop-step.invariant.stands
          ∙ ap (λ (xs : List Step). let n : Ran = record { setup = setup; steps = xs } in n) more;
      run = subst (IsRun setup) more (run_goes_on setup (front ++ take i c.args.steps.now) step allowed);
    }

-- the place of the step that was refused
here : (c : Then-refused) → IsRefusedAt c.args.machine.now.setup (c.args.machine.now.steps ++ c.args.steps.now) (length c.steps.result.now)
here c =
    refused_behind c.args.machine.now.setup c.args.machine.now.steps c.args.steps.now c.loop-step.step-index c.loop-step.machine (Exec 0) (length c.steps.result.now) c.step.result c.loop-step.invariant.stands c.loop-step.invariant.run c.loop-step-test.true
    c.step.ensures.allowed.1 (sym c.is_err-refused.ensures.value ∙ c.if-refused.true) (ap length c.steps.ensures.steps)

pub returns-then-refused-clause-not_a_run : goal.returns-then-refused-clause-not_a_run
returns-then-refused-clause-not_a_run c = here c

pub returns-then-refused-clause-kept : goal.returns-then-refused-clause-kept
returns-then-refused-clause-kept c =
    err_there _ c.step.result (sym c.is_err-refused.ensures.value ∙ c.if-refused.true) c.step.ensures.err
    ∙ kept_before c.args.machine.now.setup c.args.machine.now.steps c.args.steps.now c.loop-step.step-index c.loop-step.machine (Exec 0) c.loop-step.invariant.stands c.loop-step-test.true c.steps.ensures.steps

pub returns-then-refused-clause-run : goal.returns-then-refused-clause-run
returns-then-refused-clause-run c = λ run. absurd (refused_is_no_run c.args.machine.now.setup (c.args.machine.now.steps ++ c.args.steps.now) (length c.steps.result.now) (here c) run)

pub returns-then-refused-clause-refused : goal.returns-then-refused-clause-refused
returns-then-refused-clause-refused c = λ at r.
    ap (λ (k : ℕ). Err (record { at = k })) (one_refused c.args.machine.now.setup (c.args.machine.now.steps ++ c.args.steps.now) (length c.steps.result.now) at (here c) r)

-- all steps were made
all : (c : After-loop-step) → c.args.machine.now.steps ++ take c.loop-step.step-index c.args.steps.now ≡ c.args.machine.now.steps ++ c.args.steps.now
all c = ap (λ (xs : List Step). c.args.machine.now.steps ++ xs) (take_all c.loop-step.step-index c.args.steps.now c.loop-step-test.false)

pub returns-clause-replayed : goal.returns-clause-replayed
returns-clause-replayed c = c.loop-step.invariant.stands ∙ ap (λ (xs : List Step). let m : Ran = record { setup = c.args.machine.now.setup; steps = xs } in m) (all c)

pub returns-clause-refused : goal.returns-clause-refused
returns-clause-refused c = λ at r.
    absurd (refused_is_no_run c.args.machine.now.setup (c.args.machine.now.steps ++ c.args.steps.now) at r (subst (IsRun c.args.machine.now.setup) (all c) c.loop-step.invariant.run))
