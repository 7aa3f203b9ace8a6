-- The findings of a run besides its data races.
use Rattle.std.specs.Prelude.{ℕ, List, ◌++◌, codes, map, Option}
use Rattle.std.specs.List.{flat_map}
use Rattle.cell_base.specs.Records.{line_feed}
use Rattle.cell_machine.specs.declared.status.End.{End}
use Rattle.cell_machine.specs.Spe.{Spe}
use Rattle.cell_hunt.specs.declared.ending.Ended.{Ended}
use Rattle.hunt_tally.specs.Tallies.{Tells}
use Rattle.hunt_reports.specs.declared.ended.AtEnd.{AtEnd}
use Rattle.hunt_reports.specs.declared.locations.Location.{Location}
use Rattle.hunt_reports.specs.declared.origins.Places.{Places}
use Rattle.hunt_reports.specs.declared.spent.Spent.{Spent}
use Rattle.hunt_reports.specs.Budgets.{spent_told}
use Rattle.hunt_reports.specs.Stops.{ended_told}
use Rattle.hunt_reports.specs.Waits.{stuck_told, running_from}

-- a missed line
abbrev pub missed_told : List ℕ → Tells
missed_told line = record { key = codes "missed " ++ line; shown = codes "  " ++ line ++ line_feed }

-- a deadlock, a livelock or a spent budget, and missed lines
abbrev pub end_told : Places → List Location → End → Option Spent → List (List ℕ) → List Tells
end_told places running end spent missed = stuck_told places running end ++ spent_told places running spent ++ map missed_told missed

-- halts and faults, in the order of the steps that ended a processor; then these
abbrev pub others_told : Places → List Spe → List Ended → List AtEnd → End → Option Spent → List (List ℕ) → List Tells
others_told places spes endings ended end spent missed =
    flat_map (ended_told places spes) endings ++ end_told places (running_from 0 ended) end spent missed
