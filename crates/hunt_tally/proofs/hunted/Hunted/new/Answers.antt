use Rattle.std.proofs.Common.{◌∙◌}
use Rattle.hunt_tally.proofs.Hunting.{no_runs}
use Rattle.hunt_tally.proofs.hunted.Hunted.new.Goals as goal

pub returns : goal.returns
returns c =
    (λ i. record { runs = 0; all_stopped = 0; left_out = 0; steps = 0; flaws = c.new.ensures.counts i; kinds = c.new-2.ensures i; endings = c.new-3.ensures i; results = c.new-4.ensures i; races = c.new-5.ensures i; missed = c.new-6.ensures i; findings = c.new-7.ensures i; warnings = c.new-8.ensures i; executed = c.new-9.ensures i }) ∙ no_runs
