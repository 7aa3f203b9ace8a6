-- Which lines of the sources runs executed.
use Rattle.std.specs.Prelude.{ℕ, ◌+◌, ◌*◌, ◌==◌, ◌&&◌, ◌||◌, not, Bool, true, false, List, [], ◌∷◌, ◌++◌, fold, map, take, slice_index_or, if◌then◌else◌}
use Rattle.std.specs.Str.{bytes_eq}
use Rattle.std.specs.List.{flat_map, list_any}
use Rattle.spu_asm.specs.declared.syntax.ListedLine.{ListedLine}
use Rattle.spu_asm.specs.declared.syntax.Section.{Section}
use Rattle.spu_asm.specs.declared.syntax.Section.TheVariants.{Text, Data}
use Rattle.cell_hunt.specs.declared.executed.Executed.{Executed}
use Rattle.hunt_tally.specs.declared.coverage.LineCoverage.{LineCoverage}
use Rattle.hunt_tally.specs.Coverage.{SourceLines}
use Rattle.hunt_tally.specs.Executed.{is_among}
use Rattle.hunt_reports.specs.declared.origins.Placed.{Placed}
use Rattle.hunt_reports.specs.declared.origins.Placed.TheVariants.{Source as Image, Bytes}
use Rattle.hunt_reports.specs.declared.origins.Placing.{Placing}
use Rattle.hunt_reports.specs.declared.origins.Places.{Places}
use Rattle.hunt_reports.specs.declared.origins.Source.{Source}
use Rattle.hunt_reports.specs.Origins.{statement_of}

-- the number of an instruction: its address is a multiple of 4, and there are sixteen processors at most
abbrev pub number_of : Executed → ℕ
number_of e = 4 * e.at + e.spe

-- ---- lines with an instruction

abbrev pub is_text : Section → Bool
is_text Text = true
is_text Data = false

-- a space, a tab or a carriage return
abbrev pub is_blank : ℕ → Bool
is_blank b = b == 32 || b == 9 || b == 13

-- after one more byte of a statement the first byte behind its labels: each label ends with a colon (58); 0 if there is none yet
abbrev pub first_after : ℕ → ℕ → ℕ
first_after first b = if b == 58 then 0 else if (first == 0) && not (is_blank b) then b else first

-- a directive begins with a dot (46)
abbrev pub is_directive : List ℕ → Bool
is_directive statement = fold first_after 0 statement == 46

-- a line of the text that places four bytes, by no directive
abbrev pub is_instruction : Source → ListedLine → Bool
is_instruction source line = is_text line.section && (line.next == line.at + 4) && not (is_directive (statement_of source line.number))

-- ---- which of them were executed

-- the name of the source of number i
abbrev pub name_of : List Source → ℕ → List ℕ
name_of sources i = slice_index_or (map (λ (s : Source). s.name.items) sources) i []

-- whether a line of the machine file loads a source of this name
abbrev pub is_named : List Source → List ℕ → Placed → Bool
is_named sources name (Image i) = bytes_eq name (name_of sources i)
is_named sources name (Bytes at len) = false

-- whether its processor executed the instruction at an address of the source, if these instructions were executed
abbrev pub executes : List Source → List ℕ → List ℕ → ℕ → Placing → Bool
executes sources executed name at g = is_named sources name g.placed && is_among (4 * at + g.spe) executed

-- whether a processor that loads the source of this name did
abbrev pub has_executed : Places → List ℕ → List ℕ → ℕ → Bool
has_executed places executed name at = list_any (executes places.sources.items executed name at) places.placings.items

abbrev pub line_coverage : Places → List ℕ → Source → ListedLine → List LineCoverage
line_coverage places executed source line =
    if is_instruction source line then record { number = line.number; executed = has_executed places executed source.name.items line.at } ∷ [] else []

abbrev pub source_coverage : Places → List ℕ → Source → SourceLines
source_coverage places executed source = record { name = source.name.items; lines = flat_map (line_coverage places executed source) source.lines.items }

-- whether one of these has the name of the source
abbrev pub is_repeated : List Source → Source → Bool
is_repeated earlier source = list_any (λ (s : Source). bytes_eq source.name.items s.name.items) earlier

-- a file that several lines of the machine file load is there once
abbrev pub some_source : Places → List ℕ → ℕ → Source → List SourceLines
some_source places executed i source = if is_repeated (take i places.sources.items) source then [] else source_coverage places executed source ∷ []

-- the sources from number i on
unfoldable pub coverage_from : Places → List ℕ → ℕ → List Source → List SourceLines
coverage_from places executed i [] = []
coverage_from places executed i (source ∷ sources) = some_source places executed i source ++ coverage_from places executed (i + 1) sources

-- the lines of all sources, if these instructions were executed
abbrev pub coverage_of : Places → List ℕ → List SourceLines
coverage_of places executed = coverage_from places executed 0 places.sources.items
