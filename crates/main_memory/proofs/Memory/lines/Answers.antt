use Rattle.std.proofs.Common.{◌*◌, ◌∙◌, ap, length, sym}
use Rattle.main_memory.proofs.PageLaws.{length_in}
use Rattle.main_memory.proofs.Memory.lines.Goals as goal

pub returns-clause-count : goal.returns-clause-count
returns-clause-count c = sym (length_in (128 * c.self.inside.lines) c.self.inside.numbers.items c.self.inside.kept.items) ∙ ap length c.self.view_is
