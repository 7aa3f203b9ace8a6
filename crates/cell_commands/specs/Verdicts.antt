-- What a verdict says of a run, and its text.
use Rattle.std.specs.Prelude.{ℕ, ◌≡◌, List}
use Rattle.cell_machine.specs.Run.{Ran}
use Rattle.race_check.specs.declared.check.Verdict.TheVariants.{Accepted, Race}
use Rattle.race_check.specs.Races.{IsVerdict}
use Rattle.race_check.specs.Reorderings.{EveryReorderingAgrees}
use Rattle.cell_report.specs.Verdicts.{verdict_lines}

-- No two steps of the run race. Made in any order in which each step comes after those that are ordered before it, they fetch and read
-- the same bytes, and leave the same. The text says that all are accepted.
pub record IsAccepted (m : Ran) (text : List ℕ) : Type 0 where
  pub no_race : IsVerdict m Accepted
  pub agree : EveryReorderingAgrees m
  pub says : text ≡ verdict_lines m.steps Accepted

-- Steps i and j of the run race. No race has a lower second step than j, and none with j a lower first one. The text names the two.
pub record IsRaced (m : Ran) (i j : ℕ) (text : List ℕ) : Type 0 where
  pub least : IsVerdict m (Race i j)
  pub says : text ≡ verdict_lines m.steps (Race i j)
