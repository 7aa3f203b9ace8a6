use Rattle.std.proofs.Common.{sym, ◌∙◌}
use Rattle.spu_asm.proofs.LabelLemmas.{line_of_view}
use Rattle.spu_asm.proofs.values.line_of.Goals as goal

pub returns : goal.returns
returns c = (c.copied.ensures ∙ c.get.ensures.value) ∙ sym (line_of_view c.args.name.now c.args.labels.now.entries)
