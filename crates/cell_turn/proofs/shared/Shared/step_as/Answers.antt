use Rattle.cell_turn.proofs.Tells.{had_rested}
use Rattle.cell_turn.proofs.shared.Shared.step_as.Goals as goal

pub returns-in-Made-clause-rests : goal.returns-in-Made-clause-rests
returns-in-Made-clause-rests g c = (had_rested _ _ c.loop.invariant.rests c.try_step.ensures.rests.0, c.try_step.ensures.rests.1)

pub returns-in-Over-clause-rests : goal.returns-in-Over-clause-rests
returns-in-Over-clause-rests g c = (had_rested _ _ c.loop.invariant.rests c.try_step.ensures.rests.0, c.try_step.ensures.rests.1)
