-- The data races of a run, and the findings that they are.
use Rattle.std.specs.Prelude.{ℕ, Bool, not, List, ◌++◌, codes, map, filter}
use Rattle.std.specs.List.{list_any}
use Rattle.std.specs.Str.{bytes_eq}
use Rattle.cell_hunt.specs.declared.racing.Racing.{Racing}
use Rattle.hunt_tally.specs.Tallies.{Tells, distinct}
use Rattle.hunt_reports.specs.declared.origins.Places.{Places}
use Rattle.hunt_reports.specs.Places.{sites_text, key_of}
use Rattle.hunt_reports.specs.RaceLines.{race_shown}

abbrev pub race_told : Places → Racing → Tells
race_told places r = record { key = key_of places r.sites; shown = sites_text r.sites }

abbrev pub race_finding : Places → Racing → Tells
race_finding places r = record { key = codes "race" ++ key_of places r.sites; shown = race_shown places r.sites }

-- whether the key is one of those that are passed
abbrev pub is_passed : List (List ℕ) → List ℕ → Bool
is_passed passed key = list_any (λ k. bytes_eq key k) passed

-- those that aren't passed
abbrev pub unpassed : Places → List (List ℕ) → List Racing → List Racing
unpassed places passed races = filter (λ r. not (is_passed passed (key_of places r.sites))) races

-- of these one of each key
abbrev pub races_told : Places → List (List ℕ) → List Racing → List Tells
races_told places passed races = distinct (map (race_told places) (unpassed places passed races))

abbrev pub race_findings : Places → List (List ℕ) → List Racing → List Tells
race_findings places passed races = distinct (map (race_finding places) (unpassed places passed races))

-- whether one is passed
abbrev pub leaves_out : Places → List (List ℕ) → List Racing → Bool
leaves_out places passed races = list_any (λ r. is_passed passed (key_of places r.sites)) races
