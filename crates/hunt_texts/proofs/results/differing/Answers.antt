use Rattle.std.proofs.Common.{sym, ◌∙◌}
use Rattle.hunt_texts.proofs.LineLemmas.{differ_here, not_true}
use Rattle.hunt_texts.proofs.results.differing.Goals as goal

pub returns-then-ne : goal.returns-then-ne
returns-then-ne c = c.loop-rest.invariant ∙ differ_here _ _ _ _ _ _ c.first_line.ensures.line c.first_line-in-loop-rest.ensures.line (not_true _ (sym c.ne.ensures ∙ c.if-ne.true))
