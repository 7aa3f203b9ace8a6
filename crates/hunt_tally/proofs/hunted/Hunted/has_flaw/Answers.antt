use Rattle.std.proofs.Common.{ap, ◌∙◌}
use Rattle.hunt_tally.specs.Reports.{Sums, has_flaw}
use Rattle.hunt_tally.proofs.Hunting.{flawed_is, flaws_in}
use Rattle.hunt_tally.proofs.hunted.Hunted.has_flaw.Goals as goal

pub returns : goal.returns
returns c = λ reports e. c.is_some.ensures ∙ ap (λ (s : Sums). has_flaw s.flaws) (c.self.view_is ∙ e) ∙ ap has_flaw (flaws_in reports) ∙ flawed_is reports
