-- The first lines of the text: which runs were made, how many of them have a failure, and how many warnings there are.
use Rattle.std.specs.Prelude.{ℕ, ◌==◌, Bool, true, false, List, [], ◌∷◌, ◌++◌, length, codes, if◌then◌else◌}
use Rattle.std.specs.Fmt.{decimal}
use Rattle.cell_base.specs.Records.{line_feed}
use Rattle.hunt_tally.specs.declared.count.Count.{Count}
use Rattle.hunt_tally.specs.declared.flaws.FlawCounts.{FlawCounts}
use Rattle.hunt_tally.specs.Tallies.{told_in}
use Rattle.hunt_tally.specs.Reports.{Sums, has_flaw}
use Rattle.hunt_texts.specs.Numbers.{word_text, units_text, runs_text}
use Rattle.hunt_texts.specs.Lists.{Item, items_text}
use Rattle.hunt_texts.specs.About.{Facts}
use Rattle.hunt_texts.specs.Unexecuted.{lines_in, missed_in}

unfoldable pub from_text : ℕ → List ℕ
from_text from = if from == 0 then [] else codes " from run " ++ decimal from

unfoldable pub seed_text : ℕ → List ℕ
seed_text seed = codes ", seed " ++ word_text seed (codes ": ")

unfoldable pub runs_made : Facts → ℕ → List ℕ
runs_made a runs = a.machine ++ codes ": " ++ runs_text runs ++ from_text a.from ++ seed_text a.seed

unfoldable pub outcome_text : List ℕ → ℕ → List ℕ
outcome_text words runs = words ++ codes " in " ++ runs_text runs

abbrev pub outcome : List ℕ → Count → Item
outcome words c = record { runs = c.runs; text = outcome_text words c.runs }

abbrev pub outcomes : FlawCounts → List Item
outcomes c =
    outcome (codes "DATA RACE") c.race ∷ outcome (codes "HALT") c.halt ∷ outcome (codes "FAULT") c.fault ∷ outcome (codes "DEADLOCK") c.stuck
    ∷ outcome (codes "LIVELOCK") c.livelock ∷ outcome (codes "EXPECTED LINE MISSING") c.missed ∷ outcome (codes "BUDGET SPENT") c.budget ∷ []

-- what was looked for
abbrev pub none_text : Bool → List ℕ
none_text true = codes "no data race, halt, fault, deadlock, livelock, spent budget or missing line"
none_text false = codes "no data race, halt, fault, deadlock, livelock or spent budget"

abbrev pub found_text : FlawCounts → Bool → List ℕ
found_text c expects = if has_flaw c then items_text false (outcomes c) else none_text expects

unfoldable pub warnings_text : ℕ → List ℕ
warnings_text n = codes "; " ++ units_text n (codes "1 warning") (codes " warnings")

-- how many different warnings the runs have, if there are any
abbrev pub warnings_note : ℕ → List ℕ
warnings_note n = if n == 0 then [] else warnings_text n

unfoldable pub missed_text : ℕ → ℕ → List ℕ
missed_text lines missed = codes "; " ++ word_text missed (codes " of ") ++ word_text lines (codes " lines with instructions never executed")

-- how many lines no run executed, if there are any
abbrev pub missed_note : ℕ → ℕ → List ℕ
missed_note lines missed = if missed == 0 then [] else missed_text lines missed

unfoldable pub head_line : Facts → Sums → List ℕ
head_line a sums =
    runs_made a sums.runs ++ found_text sums.flaws a.expects ++ warnings_note (length (told_in sums.warnings)) ++ missed_note (length (lines_in a.coverage)) (length (missed_in a.coverage))
    ++ line_feed

unfoldable pub steps_line : ℕ → List ℕ
steps_line steps = codes "ended after " ++ word_text steps (codes " steps, the limit of a hunt without --runs\n")

-- if the number of steps ended the hunt
abbrev pub limit_line : ℕ → Bool → List ℕ
limit_line steps by_steps = if by_steps then steps_line steps else []
