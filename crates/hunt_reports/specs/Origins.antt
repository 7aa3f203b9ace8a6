-- Which line placed the word at an address of a local store: the last of those that placed it.
use Rattle.std.specs.Prelude.{ℕ, ◌+◌, ◌-◌, ◌==◌, ◌&&◌, nat_le, nat_lt, Bool, List, [], reverse, Option, Some, None, is_some, slice_get, slice_index_or, find}
use Rattle.std.specs.Option.{option_map}
use Rattle.cell_base.specs.Numbers.{◌>>=◌}
use Rattle.spu_asm.specs.declared.syntax.ListedLine.{ListedLine}
use Rattle.hunt_reports.specs.Lists.{bytes_in}
use Rattle.hunt_reports.specs.declared.origins.Placed.{Placed}
use Rattle.hunt_reports.specs.declared.origins.Placed.TheVariants.{Source as Image, Bytes}
use Rattle.hunt_reports.specs.declared.origins.Placing.{Placing}
use Rattle.hunt_reports.specs.declared.origins.Source.{Source}
use Rattle.hunt_reports.specs.declared.origins.Places.{Places}
use Rattle.hunt_reports.specs.declared.origins.SourceLine.{SourceLine}

-- a line of a source: the name of the source, the number of the line, and its statement
pub record NamedLine : Type 0 where
  pub name : List ℕ
  pub number : ℕ
  pub statement : List ℕ

abbrev pub named_line : Option SourceLine → Option NamedLine
named_line line = option_map (λ l. record { name = l.name.now; number = l.number; statement = l.statement.now }) line

-- the line placed the byte at address a
abbrev pub is_line : ℕ → ListedLine → Bool
is_line a line = nat_le line.at a && nat_lt a line.next

-- the number of the line of a source that placed the byte at address a
abbrev pub line_at : List ListedLine → ℕ → Option ℕ
line_at lines a = option_map (λ l. l.number) (find (is_line a) lines)

-- the statement of a line, counted from 1; empty if the source has no such line
abbrev pub statement_of : Source → ℕ → List ℕ
statement_of source line = slice_index_or (bytes_in source.statements.items) (line - 1) []

-- the same by the number of the source
unfoldable pub line_in : List Source → ℕ → ℕ → Option NamedLine
line_in sources i a = slice_get sources i >>= λ source. line_at source.lines.items a >>= λ number. Some (record { name = source.name.items; number = number; statement = statement_of source number })

-- the byte at address a is among what a line of the machine file placed
abbrev pub has_placed : List Source → ℕ → Placed → Bool
has_placed sources a (Image i) = is_some (line_in sources i a)
has_placed sources a (Bytes from len) = nat_le from a && nat_lt a (from + len)

-- it is address a of processor p
abbrev pub covers : List Source → ℕ → ℕ → Placing → Bool
covers sources p a g = (g.spe == p) && has_placed sources a g.placed

-- the owner of address a of processor p: the last placing that covers it
abbrev pub owner : Places → ℕ → ℕ → Option Placed
owner places p a = option_map (λ g. g.placed) (find (covers places.sources.items p a) (reverse places.placings.items))

abbrev pub is_placed : Places → ℕ → ℕ → Bool
is_placed places p a = is_some (owner places p a)

abbrev pub line_by : List Source → ℕ → Placed → Option NamedLine
line_by sources a (Image i) = line_in sources i a
line_by sources a (Bytes from len) = None

-- the line of a source that placed the word; None where a `code` or `bytes` line did, or none
unfoldable pub source_line : Places → ℕ → ℕ → Option NamedLine
source_line places p a = owner places p a >>= λ placed. line_by places.sources.items a placed
