use Rattle.std.proofs.Common.{ℕ, ◌≡◌, ◌++◌, Err, ap, inl, subst, ◌∙◌}
use Rattle.cell_machine.specs.Run.{Ran, IsRun}
use Rattle.run_record.specs.Replayed.{IsRefusedAt}
use Rattle.run_record.specs.declared.error.ReplayError.TheVariants.{NotARun}
use Rattle.run_record.proofs.Runs.{refused_is_no_run, one_refused}
use Rattle.run_record.proofs.replaying.replay.Goals as goal

pub returns-in-Ok-clause-refused : goal.returns-in-Ok-clause-refused
returns-in-Ok-clause-refused c = λ at r.
    let is : c.make_steps.new.machine ≡ record { setup = c.args.setup; steps = c.args.steps.now } =
    c.in-Ok.ensures.replayed ∙ ap (λ (m : Ran). let n : Ran = record m { steps = m.steps ++ c.args.steps.now } in n) c.in_ok-machine.ensures in
    absurd (refused_is_no_run c.args.setup c.args.steps.now at r (subst (λ (m : Ran). IsRun m.setup m.steps) is c.steps-run.ensures.run))

pub returns-in-Err-clause-refused : goal.returns-in-Err-clause-refused
returns-in-Err-clause-refused c = λ at r.
    let here = subst (λ (m : Ran). IsRefusedAt m.setup (m.steps ++ c.args.steps.now) c.in-Err.field-0.at) c.in_ok-machine.ensures c.in-Err.ensures.not_a_run in
    inl (ap (λ (k : ℕ). Err (NotARun k)) (one_refused c.args.setup c.args.steps.now c.in-Err.field-0.at at here r))
