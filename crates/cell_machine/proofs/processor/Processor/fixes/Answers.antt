use Rattle.std.proofs.Common.{sym, ◌∙◌, ap}
use Rattle.tag_groups.specs.declared.Tags.{Tags}
use Rattle.cell_machine.specs.Effects.{is_fixed}
use Rattle.cell_machine.proofs.processor.Processor.fixes.Goals as goal

pub returns : goal.returns
returns c = λ P shows. c.fixes_with.ensures P.moves shows.queue ∙ ap (λ (t : Tags). is_fixed t P.moves) (sym shows.tags)
