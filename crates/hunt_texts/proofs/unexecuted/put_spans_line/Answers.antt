use Rattle.std.proofs.Common.{◌++◌, ap, ◌∙◌}
use Rattle.std.specs.List.{flat_map}
use Rattle.hunt_texts.specs.Unexecuted.{span_text, spans_line}
use Rattle.hunt_texts.proofs.RowLemmas.{four}
use Rattle.hunt_texts.proofs.unexecuted.put_spans_line.Goals as goal

pub returns : goal.returns
unfolding spans_line
returns c =
    four _ _ _ _ _ _ _ _ _ c.in_ok-extend_from_slice.ensures.items
    (c.in_ok-put_spans.ensures ∙ ap (λ xs. c.extend_from_slice.new.self.items ++ flat_map (span_text c.args.name.now) xs) c.printed.ensures)
    c.in_ok-put_more.ensures c.in_ok-push.ensures.items
