-- The counts are those of runs that were taken in.
use Rattle.std.specs.Prelude.{ℕ, ◌≤◌, ◌*◌, ◌^◌}
use Rattle.hunt_tally.specs.declared.count.Count.{Count}
use Rattle.hunt_tally.specs.declared.flaws.FlawCounts.{FlawCounts}
use Rattle.hunt_tally.specs.Kinds.{runs_of}
use Rattle.hunt_tally.specs.Reports.{Sums}

pub record IsAmong (most : ℕ) (c : Count) : Type 0 where
  pub runs : c.runs ≤ most
  pub first : c.first ≤ most

pub record AreWithin (runs : ℕ) (c : FlawCounts) : Type 0 where
  pub race : IsAmong runs c.race
  pub stuck : IsAmong runs c.stuck
  pub livelock : IsAmong runs c.livelock
  pub budget : IsAmong runs c.budget
  pub fault : IsAmong runs c.fault
  pub halt : IsAmong runs c.halt
  pub missed : IsAmong runs c.missed

pub record IsWithin (s : Sums) : Type 0 where
  pub all_stopped : s.all_stopped ≤ s.runs
  pub left_out : s.left_out ≤ s.runs
  -- a run has fewer than 2 ^ 32 steps
  pub steps : s.steps ≤ s.runs * 2 ^ 32
  pub flaws : AreWithin s.runs s.flaws
  pub kinds : runs_of s.kinds ≤ s.runs
  pub endings : s.endings.runs ≤ s.runs
  pub results : s.results.runs ≤ s.runs
  pub races : s.races.runs ≤ s.runs
  pub missed : s.missed.runs ≤ s.runs
  pub findings : s.findings.runs ≤ s.runs
  pub warnings : s.warnings.runs ≤ s.runs
