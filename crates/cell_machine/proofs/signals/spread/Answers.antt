use Rattle.std.proofs.Common.{◌∙◌}
use Rattle.cell_machine.specs.Shows.{informed_by}
use Rattle.cell_machine.proofs.signals.spread.Goals as goal

pub returns-clause-spread : goal.returns-clause-spread
returns-clause-spread c = λ spes two. c.lose.ensures.lost (informed_by spes c.args.change.sent) (c.deliver.ensures.informed spes two)

pub returns-clause-none : goal.returns-clause-none
returns-clause-none c = λ none. c.lose.ensures.none none.1 ∙ c.deliver.ensures.none none.0
