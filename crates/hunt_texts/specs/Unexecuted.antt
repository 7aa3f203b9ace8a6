-- The lines of the sources that no run executed.
use Rattle.std.specs.Prelude.{ℕ, ◌-◌, ◌==◌, not, nat_lt, List, [], ◌∷◌, ◌++◌, filter, take, length, codes, Option, None, Some, option_to_list, if◌then◌else◌}
use Rattle.std.specs.List.{flat_map}
use Rattle.std.specs.Fmt.{decimal}
use Rattle.cell_base.specs.Records.{line_feed}
use Rattle.hunt_tally.specs.declared.coverage.LineCoverage.{LineCoverage}
use Rattle.hunt_tally.specs.Coverage.{SourceLines}
use Rattle.hunt_texts.specs.declared.unexecuted.Span.{Span}
use Rattle.hunt_texts.specs.Numbers.{word_text}

-- the lines with an instruction of all sources, and those of them that no run executed
unfoldable pub lines_in : List SourceLines → List LineCoverage
lines_in coverage = flat_map (λ (s : SourceLines). s.lines) coverage

abbrev pub missed_among : List LineCoverage → List LineCoverage
missed_among lines = filter (λ (l : LineCoverage). not l.executed) lines

abbrev pub missed_in : List SourceLines → List LineCoverage
missed_in coverage = missed_among (lines_in coverage)

-- ---- spans of lines

-- one line more
abbrev pub grown : Option Span → ℕ → Span
grown None n = record { first = n; last = n }
grown (Some s) n = record s { last = n }

-- The longest spans of lines with instructions none of which was executed; `begun` is the span that ends before these lines.
unfoldable pub spans_from : Option Span → List LineCoverage → List Span
spans_from begun [] = option_to_list begun
spans_from begun (l ∷ ls) = if l.executed then option_to_list begun ++ spans_from None ls else spans_from (Some (grown begun l.number)) ls

-- ---- as text

abbrev pub last_text : Span → List ℕ
last_text s = if s.last == s.first then [] else codes "-" ++ decimal s.last

unfoldable pub span_text : List ℕ → Span → List ℕ
span_text name s = codes " " ++ name ++ codes ":" ++ decimal s.first ++ last_text s

-- how many spans of a source are printed
abbrev pub most : ℕ
most = 8

unfoldable pub more_spans : ℕ → List ℕ
more_spans n = if nat_lt most n then codes " and " ++ word_text (n - most) (codes " more") else []

unfoldable pub spans_line : List ℕ → List Span → List ℕ
spans_line name spans = codes "never executed:" ++ flat_map (span_text name) (take most spans) ++ more_spans (length spans) ++ line_feed

-- nothing if all lines of a source were executed
abbrev pub some_spans : List ℕ → List Span → List ℕ
some_spans name spans = if length spans == 0 then [] else spans_line name spans

abbrev pub source_text : SourceLines → List ℕ
source_text s = some_spans s.name (spans_from None s.lines)

unfoldable pub unexecuted_lines : List SourceLines → List ℕ
unexecuted_lines coverage = flat_map source_text coverage
