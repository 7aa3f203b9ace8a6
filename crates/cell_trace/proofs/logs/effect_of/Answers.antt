use Rattle.cell_trace.proofs.LogLaws.{within}
use Rattle.cell_trace.proofs.logs.effect_of.Goals as goal

pub returns-clause-within : goal.returns-clause-within
returns-clause-within c = within c.args.m.now c.args.step c.effect.result c.effect.ensures.fits c.steps.ensures.sound c.effect.ensures.effect
