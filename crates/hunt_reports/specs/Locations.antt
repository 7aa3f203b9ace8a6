-- Instructions of processors, as findings show them.
use Rattle.std.specs.Prelude.{ℕ, List, ◌++◌, codes, Option, None, Some}
use Rattle.std.specs.Fmt.{decimal}
use Rattle.cell_base.specs.Hex.{hex}
use Rattle.cell_hunt.specs.declared.site.Site.{Site}
use Rattle.cell_hunt.specs.declared.site.Site.TheVariants.{Exec, Piece, Elem, Retire, Atomic, Host}
use Rattle.hunt_reports.specs.declared.locations.Location.{Location}
use Rattle.hunt_reports.specs.declared.origins.Places.{Places}
use Rattle.hunt_reports.specs.Origins.{NamedLine, source_line}

-- the instruction that a step comes from; None for an action of the host
abbrev pub location_of : Site → Option Location
location_of (Exec p at) = Some (record { spe = p; at = at })
location_of (Piece p at) = Some (record { spe = p; at = at })
location_of (Elem p at) = Some (record { spe = p; at = at })
location_of (Retire p at) = Some (record { spe = p; at = at })
location_of (Atomic p at) = Some (record { spe = p; at = at })
location_of (Host action) = None

abbrev pub spu_text : ℕ → List ℕ
spu_text p = codes "SPU " ++ decimal p

-- file, line and statement; if no source placed the instruction, its processor and its address
abbrev pub line_shown : Option NamedLine → Location → List ℕ
line_shown (Some line) l = line.name ++ codes ":" ++ decimal line.number ++ codes ": " ++ line.statement
line_shown None l = spu_text l.spe ++ codes " at 0x" ++ hex 5 l.at

abbrev pub location_shown : Places → Location → List ℕ
location_shown places l = line_shown (source_line places l.spe l.at) l

-- file and line; if no source placed the instruction, its address
abbrev pub short_line : Option NamedLine → ℕ → List ℕ
short_line (Some line) at = line.name ++ codes ":" ++ decimal line.number
short_line None at = codes "0x" ++ hex 5 at

abbrev pub short_shown : Places → Location → List ℕ
short_shown places l = short_line (source_line places l.spe l.at) l.at

-- a line that shows an instruction, with a note in parentheses
abbrev pub note_start : Places → Location → List ℕ
note_start places l = codes "  " ++ location_shown places l ++ codes "  ("

abbrev pub note_line : Places → Location → List ℕ → List ℕ
note_line places l note = note_start places l ++ note ++ codes ")\n"
