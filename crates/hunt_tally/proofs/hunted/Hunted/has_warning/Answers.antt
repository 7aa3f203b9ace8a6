use Rattle.std.proofs.Common.{length, ap, ◌∙◌}
use Rattle.std.specs.Prelude.{nat_lt}
use Rattle.hunt_tally.specs.Tallies.{told_in}
use Rattle.hunt_tally.specs.Reports.{Sums}
use Rattle.hunt_tally.proofs.Told.{warned_is}
use Rattle.hunt_tally.proofs.hunted.Hunted.has_warning.Goals as goal

pub returns : goal.returns
returns c = λ reports e. ap (nat_lt 0) c.len.ensures ∙ ap (λ (s : Sums). nat_lt 0 (length (told_in s.warnings))) (c.self.view_is ∙ e) ∙ warned_is reports
