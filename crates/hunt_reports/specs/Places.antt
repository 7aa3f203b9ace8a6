-- Where the steps of a race come from, as text, and which races are the same.
use Rattle.std.specs.Prelude.{ℕ, List, ◌++◌, codes, Option, None, Some, if◌then◌else◌}
use Rattle.std.specs.Fmt.{decimal}
use Rattle.std.specs.Ordering.{is_lt, nat_cmp}
use Rattle.std.specs.Cmp.Lexicographic.{slice_cmp}
use Rattle.cell_base.specs.Hex.{hex}
use Rattle.cell_hunt.specs.declared.site.Site.{Site}
use Rattle.cell_hunt.specs.declared.site.Site.TheVariants.{Exec, Piece, Elem, Retire, Atomic, Host}
use Rattle.cell_hunt.specs.declared.site.Sites.{Sites}
use Rattle.hunt_reports.specs.declared.origins.Places.{Places}
use Rattle.hunt_reports.specs.Origins.{NamedLine, source_line}

-- the letter of the step's line, the processor, and the address of the instruction
abbrev pub spe_site_text : List ℕ → ℕ → ℕ → List ℕ
spe_site_text letter p at = codes " | " ++ letter ++ codes " " ++ decimal p ++ codes " at 0x" ++ hex 5 at

abbrev pub site_text : Site → List ℕ
site_text (Exec p at) = spe_site_text (codes "x") p at
site_text (Piece p at) = spe_site_text (codes "p") p at
site_text (Elem p at) = spe_site_text (codes "e") p at
site_text (Retire p at) = spe_site_text (codes "r") p at
site_text (Atomic p at) = spe_site_text (codes "a") p at
site_text (Host action) = codes " | h " ++ decimal action

abbrev pub sites_text : Sites → List ℕ
sites_text sites = site_text sites.first ++ site_text sites.second

-- ---- by lines

-- the line of a source that placed an instruction; where no source did, its processor and its address
abbrev pub place_text : Option NamedLine → ℕ → ℕ → List ℕ
place_text (Some line) p at = codes " | " ++ line.name ++ codes ":" ++ decimal line.number
place_text None p at = codes " | " ++ decimal p ++ codes " at 0x" ++ hex 5 at

-- the line of the instruction at an address of processor p
abbrev pub instruction_text : Places → ℕ → ℕ → List ℕ
instruction_text places p at = place_text (source_line places p at) p at

-- the line that a step comes from: that of its instruction, whatever the step does, or the host's action
abbrev pub origin_text : Places → Site → List ℕ
origin_text places (Exec p at) = instruction_text places p at
origin_text places (Piece p at) = instruction_text places p at
origin_text places (Elem p at) = instruction_text places p at
origin_text places (Retire p at) = instruction_text places p at
origin_text places (Atomic p at) = instruction_text places p at
origin_text places (Host action) = site_text (Host action)

-- two texts, the lesser first
abbrev pub in_order : List ℕ → List ℕ → List ℕ
in_order first second = if is_lt (slice_cmp nat_cmp second first) then second ++ first else first ++ second

-- the key of a race: the lines that its two steps come from, in either order; two races are the same exactly if their keys are
abbrev pub key_of : Places → Sites → List ℕ
key_of places sites = in_order (origin_text places sites.first) (origin_text places sites.second)
