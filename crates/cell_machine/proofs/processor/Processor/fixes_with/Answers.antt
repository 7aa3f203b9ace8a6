use Rattle.std.proofs.Common.{◌∙◌, ap, false}
use Rattle.std.specs.Option.{option_map_or}
use Rattle.tag_groups.specs.Settle.{is_met}
use Rattle.cell_machine.proofs.SpeShown.{busy-same}
use Rattle.cell_machine.proofs.processor.Processor.fixes_with.Goals as goal

pub returns : goal.returns
returns c = λ m shows.
    c.would_settle.ensures ∙ ap (λ busy. option_map_or (is_met busy) c.args.self.now.tags.request false) (c.busy.ensures.bits shows.calls shows.stands ∙ busy-same shows.calls m shows.moves)
