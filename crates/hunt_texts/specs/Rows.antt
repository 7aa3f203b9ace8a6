-- What a line of a tally is printed as.
use Rattle.std.specs.Prelude.{ℕ, List}
use Rattle.hunt_tally.specs.Tallies.{Told}
use Rattle.hunt_texts.specs.declared.rows.Row.{Row}
use Rattle.hunt_texts.specs.declared.rows.Row.TheVariants.{Race, Ending, Result, Missed, Finding, Warning}
use Rattle.hunt_texts.specs.Jsons.{race_json, ending_json, result_json, missed_json, finding_json, warning_json}

abbrev pub row_json : Row → ℕ → Told → List ℕ
row_json Race = race_json
row_json Ending = ending_json
row_json Result = result_json
row_json Missed = missed_json
row_json Finding = finding_json
row_json Warning = warning_json
