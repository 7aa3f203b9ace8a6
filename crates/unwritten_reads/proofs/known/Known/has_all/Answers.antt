use Rattle.std.proofs.Common.{ap, ◌∙◌}
use Rattle.std.specs.Prelude.{not}
use Rattle.unwritten_reads.specs.Marks.{is_marked}
use Rattle.unwritten_reads.proofs.Words.{all-from}
use Rattle.unwritten_reads.proofs.known.Known.has_all.Goals as goal

pub returns : goal.returns
returns c = λ yes b is. all-from (is_marked c.args.self.now.marks) c.args.range c.first.result c.first.ensures (ap not (c.is_none.ensures ∙ ap not yes)) b is
