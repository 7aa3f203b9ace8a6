-- Lines that show steps, and those of a data race: its two steps, and its suppression.
use Rattle.std.specs.Prelude.{ℕ, List, [], ◌++◌, codes, Option, None, Some}
use Rattle.std.specs.Fmt.{decimal}
use Rattle.cell_base.specs.Records.{line_feed}
use Rattle.cell_hunt.specs.declared.site.Site.{Site}
use Rattle.cell_hunt.specs.declared.site.Sites.{Sites}
use Rattle.cell_hunt.specs.declared.site.Site.TheVariants.{Exec, Piece, Elem, Retire, Atomic, Host}
use Rattle.hunt_reports.specs.declared.locations.Location.{Location}
use Rattle.hunt_reports.specs.declared.origins.Places.{Places}
use Rattle.hunt_reports.specs.Origins.{NamedLine, source_line}
use Rattle.hunt_reports.specs.Places.{site_text}
use Rattle.hunt_reports.specs.Locations.{location_of, note_line, spu_text}

-- who makes a step
abbrev pub actor_text : Site → List ℕ
actor_text (Exec p at) = spu_text p
actor_text (Piece p at) = codes "DMA transfer of " ++ spu_text p
actor_text (Elem p at) = codes "list element read by the MFC of " ++ spu_text p
actor_text (Retire p at) = codes "DMA command of " ++ spu_text p
actor_text (Atomic p at) = codes "atomic command of " ++ spu_text p
actor_text (Host action) = codes "host action " ++ decimal action

-- a line with a note on a step
abbrev pub located_line : Places → List ℕ → Option Location → List ℕ
located_line places note (Some l) = note_line places l note
located_line places note None = codes "  " ++ note ++ line_feed

-- the line of a step, and what it does
abbrev pub step_line : Places → Site → List ℕ → List ℕ
step_line places site does = located_line places (actor_text site ++ does) (location_of site)

abbrev pub site_line : Places → Site → List ℕ
site_line places site = step_line places site []

-- the line that a step comes from, if a source placed it
abbrev pub line_word : Option NamedLine → List ℕ
line_word (Some line) = codes " " ++ line.name ++ codes ":" ++ decimal line.number
line_word None = []

abbrev pub located_word : Places → Option Location → List ℕ
located_word places (Some l) = line_word (source_line places l.spe l.at)
located_word places None = []

abbrev pub site_word : Places → Site → List ℕ
site_word places site = located_word places (location_of site)

-- a step as a suppression names it
abbrev pub suppressed_site : Places → Site → List ℕ
suppressed_site places site = site_text site ++ site_word places site

abbrev pub suppressed_sites : Places → Sites → List ℕ
suppressed_sites places sites = suppressed_site places sites.first ++ suppressed_site places sites.second

abbrev pub suppression_line : Places → Sites → List ℕ
suppression_line places sites = codes "  suppression:" ++ suppressed_sites places sites ++ line_feed

abbrev pub race_shown : Places → Sites → List ℕ
race_shown places sites = site_line places sites.first ++ site_line places sites.second ++ suppression_line places sites
