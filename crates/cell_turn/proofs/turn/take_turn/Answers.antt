use Rattle.std.proofs.Common.{◌≡◌, ap, sym, subst, ◌∙◌}
use Rattle.std.specs.Prelude.{Option, Some, IfOk, IfErr}
use Rattle.cell_base.specs.declared.steps.Step.{Step}
use Rattle.cell_machine.specs.Run.{first_of, EndsAs}
use Rattle.cell_machine.proofs.Runs.{open_of}
use Rattle.cell_turn.specs.Choice.{or_else, chosen, made}
use Rattle.cell_turn.proofs.turn.take_turn.Goals as goal

pub returns-in-Some-clause-chosen : goal.returns-in-Some-clause-chosen
returns-in-Some-clause-chosen c = ap (λ o. or_else o (first_of c.args.machine.now)) (sym c.step_as.ensures.picked ∙ c.in-Some.is)

pub returns-in-Some-clause-open : goal.returns-in-Some-clause-open
returns-in-Some-clause-open c = open_of c.args.machine.now c.in-Some.step c.in-Some.ensures.allowed

pub returns-in-None-clause-chosen : goal.returns-in-None-clause-chosen
returns-in-None-clause-chosen c =
    let none : chosen c.args.machine.now c.args.actor c.args.choice ≡ first_of c.args.machine.now = ap (λ o. or_else o (first_of c.args.machine.now)) (sym c.step_as.ensures.picked ∙ c.in-None.is) in
    subst (λ (o : Option Step). IfOk c.take_any.result (λ s. o ≡ Some s)) (sym none)
    (subst (λ m. IfOk c.take_any.result (λ s. first_of m ≡ Some s)) c.in-None.ensures.none c.take_any.ensures.first)
