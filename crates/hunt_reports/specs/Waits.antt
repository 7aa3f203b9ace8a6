-- Processors that still run at the end, and the finding of a deadlock.
use Rattle.std.specs.Prelude.{ℕ, suc, ◌-◌, ◌==◌, nat_le, List, [], ◌∷◌, ◌++◌, codes, take, length, if◌then◌else◌}
use Rattle.std.specs.List.{flat_map}
use Rattle.std.specs.Fmt.{decimal}
use Rattle.cell_machine.specs.declared.status.Status.{Status}
use Rattle.cell_machine.specs.declared.status.Status.TheVariants.{Running}
use Rattle.cell_machine.specs.declared.status.End.{End}
use Rattle.cell_machine.specs.declared.status.End.TheVariants.{AllStopped, Stuck, Budget}
use Rattle.hunt_tally.specs.Tallies.{Tells}
use Rattle.hunt_reports.specs.declared.ended.AtEnd.{AtEnd}
use Rattle.hunt_reports.specs.declared.locations.Location.{Location}
use Rattle.hunt_reports.specs.declared.origins.Places.{Places}
use Rattle.hunt_reports.specs.Places.{instruction_text}
use Rattle.hunt_reports.specs.Locations.{note_line, spu_text}

-- processor p at its PC, if it runs
abbrev pub running_at : ℕ → ℕ → Status → List Location
running_at p pc Running = record { spe = p; at = pc } ∷ []
running_at p pc _ = []

-- those of the processors from number p on
unfoldable pub running_from : ℕ → List AtEnd → List Location
running_from p [] = []
running_from p (e ∷ es) = running_at p e.pc e.status ++ running_from (suc p) es

-- ---- as text

abbrev pub running_line : Places → List ℕ → Location → List ℕ
running_line places does l = note_line places l (spu_text l.spe ++ does)

-- how many processors run besides the four that are shown
abbrev pub hidden_line : ℕ → List ℕ
hidden_line n = if n == 1 then codes "  and 1 more SPU\n" else codes "  and " ++ decimal n ++ codes " more SPUs\n"

abbrev pub more_line : ℕ → List ℕ
more_line n = if nat_le n 4 then [] else hidden_line (n - 4)

-- the lines of the first four, if there are so many
abbrev pub lines_shown : ℕ → List ℕ → List ℕ
lines_shown n lines = if n == 0 then codes "  no SPU is running, but a DMA command is not complete\n" else lines ++ more_line n

abbrev pub running_shown : Places → List ℕ → List Location → List ℕ
running_shown places does running = lines_shown (length running) (flat_map (running_line places does) (take 4 running))

abbrev pub location_key : Places → Location → List ℕ
location_key places l = instruction_text places l.spe l.at

-- ---- the finding

abbrev pub deadlock_told : Places → List Location → Tells
deadlock_told places running = record { key = codes "deadlock" ++ flat_map (location_key places) running; shown = running_shown places (codes " waits") running }

-- if the run ends with one
abbrev pub stuck_told : Places → List Location → End → List Tells
stuck_told places running Stuck = deadlock_told places running ∷ []
stuck_told places running Budget = []
stuck_told places running AllStopped = []
