-- The findings of the steps that ended a processor: halts and faults.
use Rattle.std.specs.Prelude.{ℕ, List, [], ◌∷◌, ◌++◌, codes, Option, slice_get}
use Rattle.std.specs.Option.{option_map, option_map_or}
use Rattle.cell_base.specs.Numbers.{◌>>=◌}
use Rattle.cell_machine.specs.declared.status.Status.{Status}
use Rattle.cell_machine.specs.declared.status.Status.TheVariants.{Halted, BadWord, BadChannel, DmaFault}
use Rattle.cell_machine.specs.Spe.{Spe}
use Rattle.state_lines.specs.Lines.{status_text}
use Rattle.cell_hunt.specs.declared.site.Site.{Site}
use Rattle.cell_hunt.specs.declared.ending.Ended.{Ended}
use Rattle.hunt_tally.specs.Tallies.{Tells}
use Rattle.hunt_reports.specs.declared.locations.Location.{Location}
use Rattle.hunt_reports.specs.declared.origins.Places.{Places}
use Rattle.hunt_reports.specs.declared.stops.Stop.{Stop}
use Rattle.hunt_reports.specs.Places.{instruction_text}
use Rattle.hunt_reports.specs.Locations.{location_of, note_line, spu_text}
use Rattle.hunt_reports.specs.Compared.{compared_at, compared_text}

-- the stop of a processor at an instruction; None if there is no such processor
abbrev pub stop_at : List Spe → Location → Option Stop
stop_at spes l = option_map (λ P. record { location = l; status = P.status; compared = compared_at P l.at }) (slice_get spes l.spe)

-- the stop by a step from this site
abbrev pub stop_of : List Spe → Site → Option Stop
stop_of spes site = location_of site >>= λ l. stop_at spes l

abbrev pub halt_shown : Places → Stop → List ℕ
halt_shown places s = note_line places s.location (spu_text s.location.spe ++ compared_text s.compared)

abbrev pub halt_told : Places → Stop → Tells
halt_told places s = record { key = codes "halt" ++ instruction_text places s.location.spe s.location.at; shown = halt_shown places s }

abbrev pub fault_shown : Places → Stop → List ℕ
fault_shown places s = note_line places s.location (spu_text s.location.spe ++ codes ": " ++ status_text s.status)

abbrev pub fault_told : Places → Stop → Tells
fault_told places s = record {
  key = codes "fault" ++ instruction_text places s.location.spe s.location.at ++ codes " " ++ status_text s.status;
  shown = fault_shown places s;
}

-- the finding of a stop with this status; none if it is no halt and no fault
abbrev pub stop_told : Places → Stop → Status → List Tells
stop_told places s Halted = halt_told places s ∷ []
stop_told places s BadWord = fault_told places s ∷ []
stop_told places s BadChannel = fault_told places s ∷ []
stop_told places s (DmaFault kind) = fault_told places s ∷ []
stop_told places s _ = []

-- the finding of a step from this site
abbrev pub site_told : Places → List Spe → Site → List Tells
site_told places spes site = option_map_or (λ (s : Stop). stop_told places s s.status) (stop_of spes site) []

abbrev pub ended_told : Places → List Spe → Ended → List Tells
ended_told places spes e = site_told places spes e.site
