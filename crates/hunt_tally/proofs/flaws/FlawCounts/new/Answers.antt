use Rattle.std.proofs.Common.{◌∙◌}
use Rattle.hunt_tally.proofs.Hunting.{no_flaws}
use Rattle.hunt_tally.proofs.flaws.FlawCounts.new.Goals as goal

pub returns-clause-counts : goal.returns-clause-counts
returns-clause-counts c =
    (λ i. record { race = c.new.ensures i; stuck = c.new-2.ensures i; livelock = c.new-3.ensures i; budget = c.new-4.ensures i; fault = c.new-5.ensures i; halt = c.new-6.ensures i; missed = c.new-7.ensures i }) ∙ no_flaws
