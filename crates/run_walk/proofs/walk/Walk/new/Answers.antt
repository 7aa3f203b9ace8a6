use Rattle.std.proofs.Common.{[], sym, ap, ◌∙◌, subst}
use Rattle.cell_machine.specs.Opening.{Opening}
use Rattle.cell_machine.specs.Run.{Ran}
use Rattle.race_order.specs.OrderedRuns.{StandsForRun}
use Rattle.run_walk.specs.Walks.{Stands}
use Rattle.run_walk.proofs.walk.Walk.new.Goals as goal

pub returns-clause-stands : goal.returns-clause-stands
unfolding Stands
returns-clause-stands c =
    let begun = λ (setup : Opening). let m : Ran = record { setup = setup; steps = [] } in m in
    subst (StandsForRun c.in-Ok.orderer) (ap begun (sym c.in-Ok-copy.ensures.same) ∙ sym c.in-Ok-new.ensures) c.in-Ok.ensures.stands
