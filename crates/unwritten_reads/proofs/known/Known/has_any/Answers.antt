use Rattle.std.proofs.Common.{sym, ◌∙◌}
use Rattle.unwritten_reads.specs.Marks.{is_marked}
use Rattle.unwritten_reads.proofs.Words.{any-from, none-from}
use Rattle.unwritten_reads.proofs.known.Known.has_any.Goals as goal

pub returns-clause-some : goal.returns-clause-some
returns-clause-some c = λ yes. any-from (is_marked c.args.self.now.marks) c.args.range c.first.result c.first.ensures (sym c.is_some.ensures ∙ yes)

pub returns-clause-none : goal.returns-clause-none
returns-clause-none c = λ no b is. none-from (is_marked c.args.self.now.marks) c.args.range c.first.result c.first.ensures (sym c.is_some.ensures ∙ no) b is
