use Rattle.std.proofs.Common.{sym, ◌∙◌}
use Rattle.spu_asm.proofs.LabelLemmas.{taken, added}
use Rattle.spu_asm.proofs.labels.add_label.Goals as goal

pub returns-then-is_some : goal.returns-then-is_some
returns-then-is_some c = taken c.args.labels.now c.args.name c.args.number c.in_ok-old.old c.in_ok-old.ensures.old c.if-is_some.ensures

pub returns : goal.returns
returns c = added c.args.labels.now c.args.name c.args.number c.in_ok-old.old c.insert.new.self.entries c.in_ok-old.ensures.old (sym c.is_some.ensures ∙ c.if-is_some.false) c.in_ok-old.ensures.entries
