-- The text of what the check of a run says.
use Rattle.std.specs.Prelude.{ℕ, ◌<◌, List, [], ◌++◌, length, codes, slice_get}
use Rattle.std.specs.Option.{option_map_or}
use Rattle.cell_base.specs.declared.steps.Step.{Step}
use Rattle.cell_base.specs.Records.{field, line_feed, step_line}
use Rattle.race_check.specs.declared.check.Verdict.{Verdict}
use Rattle.race_check.specs.declared.check.Verdict.TheVariants.{Accepted, Race}

-- how many steps were accepted
abbrev pub accepted_line : ℕ → List ℕ
accepted_line n = codes "accepted" ++ field n ++ line_feed

-- which two race
abbrev pub race_line : ℕ → ℕ → List ℕ
race_line i j = codes "race" ++ field i ++ field j ++ line_feed

-- the line that the record has of the step at this place
abbrev pub line_at : List Step → ℕ → List ℕ
line_at steps at = option_map_or step_line (slice_get steps at) []

-- the verdict on a record of these steps
abbrev pub verdict_lines : List Step → Verdict → List ℕ
verdict_lines steps Accepted = accepted_line (length steps)
verdict_lines steps (Race i j) = race_line i j ++ codes "first " ++ line_at steps i ++ codes "second " ++ line_at steps j

-- where it names two steps, the record has them
abbrev pub NamesSteps : List Step → Verdict → Type 0
NamesSteps steps Accepted = Unit {0}
NamesSteps steps (Race i j) = (i < length steps) × (j < length steps)
