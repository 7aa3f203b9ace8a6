-- The finding of a spent budget: a livelock, or a run that still progressed.
use Rattle.std.specs.Prelude.{ℕ, ◌-◌, List, [], ◌∷◌, ◌++◌, codes, Option, Some, None, if◌then◌else◌}
use Rattle.std.specs.Fmt.{decimal}
use Rattle.cell_base.specs.Records.{line_feed}
use Rattle.hunt_tally.specs.Tallies.{Tells}
use Rattle.hunt_reports.specs.declared.locations.Location.{Location}
use Rattle.hunt_reports.specs.declared.origins.Places.{Places}
use Rattle.hunt_reports.specs.declared.spent.Spent.{Spent}
use Rattle.hunt_reports.specs.Livelocks.{livelock_told}
use Rattle.hunt_reports.specs.Spent.{is_livelock}
use Rattle.hunt_reports.specs.Waits.{running_shown}

unfoldable pub progress_line : Spent → List ℕ
progress_line s = codes "  still progressing: the last change is step " ++ decimal (s.last_change - 1) ++ codes " of " ++ decimal s.budget ++ line_feed

abbrev pub budget_told : Places → List Location → Spent → Tells
budget_told places running s = record { key = codes "budget"; shown = running_shown places (codes " runs") running ++ progress_line s }

-- the finding of a run in which these processors still run
abbrev pub one_told : Places → List Location → Spent → Tells
one_told places running s = if is_livelock s then livelock_told places s else budget_told places running s

abbrev pub spent_told : Places → List Location → Option Spent → List Tells
spent_told places running (Some s) = one_told places running s ∷ []
spent_told places running None = []
