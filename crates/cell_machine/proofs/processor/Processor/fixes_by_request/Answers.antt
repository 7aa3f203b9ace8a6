use Rattle.std.proofs.Common.{sym, ◌∙◌, ap, false}
use Rattle.std.specs.Option.{option_map_or}
use Rattle.tag_groups.specs.declared.Tags.{Tags}
use Rattle.tag_groups.specs.Settle.{is_met, requested}
use Rattle.cell_machine.specs.Effects.{is_fixed}
use Rattle.cell_machine.proofs.SpeShown.{busy-same}
use Rattle.cell_machine.proofs.processor.Processor.fixes_by_request.Goals as goal

pub returns : goal.returns
returns c = λ P shows.
    let q = shows.queue in
    c.would_settle.ensures ∙ ap (λ b. option_map_or (is_met b) c.request.new.self.request false) (c.busy.ensures.bits q.calls q.stands ∙ busy-same q.calls P.moves q.moves)
    ∙ ap (λ (t : Tags). is_fixed t P.moves) (c.request.ensures ∙ ap (λ (t : Tags). requested t c.args.how) (sym shows.tags))
