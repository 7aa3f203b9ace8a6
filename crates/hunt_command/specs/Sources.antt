-- Which line of a machine file, or of which source, places each word of the stores.
use Rattle.std.specs.Prelude.{◌≡◌, ℕ, List, map, Option, Some, None, Result, Ok, Err}
use Rattle.std.specs.Option.{option_map}
use Rattle.cell_base.specs.Numbers.{◌>>=◌}
use Rattle.cell_io.specs.Files.{File}
use Rattle.spu_asm.specs.declared.error.AsmError.{AsmError}
use Rattle.spu_asm.specs.declared.syntax.ListedLine.{ListedLine}
use Rattle.spu_asm.specs.Listings.{Listing, listed}
use Rattle.cell_load.specs.Entries.{Entry}
use Rattle.cell_load.specs.Order.{machine_at}
use Rattle.cell_load.specs.Sources.{Named, sources_of}
use Rattle.cell_commands.specs.Course.{Given, whole, given}
use Rattle.cell_commands.specs.Forms.{text_limit}
use Rattle.hunt_reports.specs.Lists.{bytes_in}
use Rattle.hunt_reports.specs.declared.origins.Source.{Source}
use Rattle.hunt_reports.specs.declared.origins.Places.{Places}
use Rattle.hunt_command.specs.Heard.{Word}
use Rattle.hunt_command.specs.Placings.{placings_in}
use Rattle.hunt_command.specs.Statements.{statements_in}

-- the name of a source, its lines with their addresses, and the statement of each line of its text
pub record Seen : Type 0 where
  pub name : Word
  pub lines : List ListedLine
  pub statements : List (List ℕ)

abbrev pub seen : Source → Seen
seen s = record { name = s.name.items; lines = s.lines.items; statements = bytes_in s.statements.items }

abbrev pub lines_listed : Result Listing AsmError → Option (List ListedLine)
lines_listed (Ok listing) = Some listing.lines
lines_listed (Err error) = None

abbrev pub lines_given : Given → Option (List ListedLine)
lines_given (whole text) = lines_listed (listed text)
lines_given other = None

-- the lines of the source file of this name, with their addresses
abbrev pub source_lines : List File → Word → Option (List ListedLine)
source_lines files name = lines_given (given files name text_limit)

abbrev pub statements_given : Given → Option (List (List ℕ))
statements_given (whole text) = Some (statements_in text)
statements_given other = None

-- the statements of the lines of the source file of this name
abbrev pub source_statements : List File → Word → Option (List (List ℕ))
source_statements files name = statements_given (given files name text_limit)

-- the source that a line of the machine file names
abbrev pub source_named : List File → Named → Option Seen
source_named files n =
    source_lines files n.name >>= λ lines. option_map (λ statements. record { name = n.name; lines = lines; statements = statements }) (source_statements files n.name)

-- these are the sources of these names
abbrev pub AreSources : List File → List Named → List Source → Type 0
AreSources files names sources = map (λ s. Some (seen s)) sources ≡ map (source_named files) names

-- the machine file has this text, which says this
pub record IsMachineText (files : List File) (machine : Word) (text : List ℕ) (entries : List Entry) : Type 0 where
  pub comes : given files machine text_limit ≡ whole text
  pub says : machine_at text ≡ Ok entries

-- this is placed by the lines of this text, and by the sources that it names
pub record ArePlaces (files : List File) (text : List ℕ) (entries : List Entry) (places : Places) : Type 0 where
  pub placings : places.placings.items ≡ placings_in text
  pub sources : AreSources files (sources_of entries) places.sources.items

-- this is placed by the lines of the machine file, and by its sources
pub record HasPlaces (files : List File) (machine : Word) (places : Places) : Type 0 where
  pub text : List ℕ
  pub entries : List Entry
  pub is : IsMachineText files machine text entries
  pub placed : ArePlaces files text entries places
