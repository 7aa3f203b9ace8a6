-- What is told of a run: how it has ended, and of its least race where the two steps come from.
use Rattle.std.specs.Prelude.{Option, Some, None}
use Rattle.cell_machine.specs.Run.{Ran, EndsAs}
use Rattle.race_check.specs.declared.check.Verdict.{Verdict}
use Rattle.race_check.specs.declared.check.Verdict.TheVariants.{Accepted, Race}
use Rattle.race_check.specs.Races.{IsVerdict}
use Rattle.cell_hunt.specs.Sites.{AreSites}
use Rattle.cell_hunt.specs.declared.site.Sites.{Sites}
use Rattle.cell_hunt.specs.declared.outcome.Outcome.{Outcome}

-- a race is told exactly where there is one, by the sites of its two steps
abbrev pub TellsRace : Ran → Verdict → Option Sites → Type 0
TellsRace m Accepted None = Unit {0}
TellsRace m Accepted (Some sites) = ⊥
TellsRace m (Race first second) None = ⊥
TellsRace m (Race first second) (Some sites) = AreSites m first second sites

-- this is told of the run
pub record IsOutcome (m : Ran) (o : Outcome) : Type 0 where
  pub ended : EndsAs m (Some o.end)
  pub verdict : Verdict
  pub is : IsVerdict m verdict
  pub race : TellsRace m verdict o.race
