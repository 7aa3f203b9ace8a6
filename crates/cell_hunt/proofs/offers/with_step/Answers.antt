use Rattle.std.proofs.Common.{sym, ◌∙◌}
use Rattle.cell_hunt.specs.Choices.{key_of}
use Rattle.cell_hunt.proofs.Bests.{step-beaten, step-best}
use Rattle.cell_hunt.proofs.offers.with_step.Goals as goal

pub returns-then-is_beaten : goal.returns-then-is_beaten
returns-then-is_beaten c = λ steps so_far.
    step-beaten (key_of c.args.machine.now c.args.strategy c.args.keys.now) steps c.args.best c.args.step c.key_of-key.result c.key_of-key.ensures (sym c.is_beaten.ensures ∙ c.if-is_beaten.true) so_far

pub returns : goal.returns
returns c = λ steps so_far.
    step-best (key_of c.args.machine.now c.args.strategy c.args.keys.now) steps c.args.best c.args.step c.key_of-key.result c.key_of-key.ensures (sym c.is_beaten.ensures ∙ c.if-is_beaten.false) so_far
