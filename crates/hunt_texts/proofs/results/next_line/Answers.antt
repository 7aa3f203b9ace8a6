use Rattle.std.proofs.Common.{sym, ap, ◌∙◌}
use Rattle.cell_base.specs.Words.{lines_of}
use Rattle.hunt_texts.specs.Results.{next_line}
use Rattle.hunt_texts.proofs.LineLemmas.{no_lines, is_nil}
use Rattle.hunt_texts.proofs.results.next_line.Goals as goal

pub returns-then-is_empty : goal.returns-then-is_empty
returns-then-is_empty c = ap next_line (sym no_lines) ∙ ap (λ t. next_line (lines_of t)) (sym (is_nil c.args.rest.now (sym c.is_empty.ensures ∙ c.if-is_empty.true)))
