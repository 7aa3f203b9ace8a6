-- What a hunt prints.
use Rattle.std.specs.Prelude.{ℕ, ◌==◌, List, [], ◌++◌, codes, if◌then◌else◌}
use Rattle.hunt_tally.specs.declared.flaws.FlawCounts.{FlawCounts}
use Rattle.hunt_tally.specs.Tallies.{told_in}
use Rattle.hunt_tally.specs.Reports.{Sums, has_flaw}
use Rattle.hunt_texts.specs.Numbers.{units_text}
use Rattle.hunt_texts.specs.About.{Facts}
use Rattle.hunt_texts.specs.Heads.{head_line, limit_line}
use Rattle.hunt_texts.specs.Findings.{findings_lines}
use Rattle.hunt_texts.specs.Ends.{ends_lines}
use Rattle.hunt_texts.specs.Results.{all_results}
use Rattle.hunt_texts.specs.Coverage.{coverage_line}
use Rattle.hunt_texts.specs.Unexecuted.{unexecuted_lines}

unfoldable pub suppressed_text : ℕ → List ℕ
suppressed_text n = codes "suppressed: " ++ units_text n (codes "1 run has") (codes " runs have") ++ codes " a data race that --pass names\n"

-- how many runs have a race that was left out, if there are any
abbrev pub suppressed_line : ℕ → List ℕ
suppressed_line n = if n == 0 then [] else suppressed_text n

-- if nothing was found
abbrev pub caution_line : FlawCounts → List ℕ
caution_line c = if has_flaw c then [] else codes "other runs may still fail: docs/guide/hunting.md says what such a hunt misses\n"

-- the text of a hunt whose runs have these sums
abbrev pub hunt_text : Sums → Facts → List ℕ
hunt_text sums a =
    head_line a sums ++ limit_line sums.steps a.by_steps ++ findings_lines a sums ++ ends_lines a.from sums ++ all_results a (told_in sums.endings) (told_in sums.results)
    ++ coverage_line sums.kinds sums.runs ++ unexecuted_lines a.coverage ++ suppressed_line sums.left_out ++ caution_line sums.flaws
