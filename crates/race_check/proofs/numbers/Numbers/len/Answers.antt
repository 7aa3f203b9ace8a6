use Rattle.std.proofs.Common.{length, sym, ap, ◌∙◌}
use Rattle.race_check.proofs.NumberLaws.{length_in}
use Rattle.race_check.proofs.numbers.Numbers.len.Goals as goal

pub returns : goal.returns
returns c = sym (length_in c.self.inside.count c.self.inside.starts.items c.self.inside.kept.items) ∙ ap length c.self.view_is
