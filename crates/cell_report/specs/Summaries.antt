-- The text of a summary of a run.
use Rattle.std.specs.Prelude.{ℕ, ◌/◌, Bool, true, false, List, ◌++◌, map, length, codes, Option}
use Rattle.std.specs.List.{count_by, sum}
use Rattle.std.specs.Simd.{first_chunks}
use Rattle.cell_base.specs.Bytes.{number}
use Rattle.cell_base.specs.declared.steps.Step.{Step}
use Rattle.cell_base.specs.declared.steps.Step.TheVariants.{Exec, Piece}
use Rattle.cell_base.specs.Records.{field, line_feed}
use Rattle.cell_machine.specs.declared.status.End.{End}
use Rattle.race_check.specs.declared.check.Verdict.{Verdict}
use Rattle.state_lines.specs.Lines.{end_line}
use Rattle.cell_report.specs.Verdicts.{verdict_lines}

abbrev pub is_exec : Step → Bool
is_exec (Exec p) = true
is_exec s = false

abbrev pub is_piece : Step → Bool
is_piece (Piece p c e k) = true
is_piece s = false

-- the words of memory, four bytes each
abbrev pub memory_words : List ℕ → List ℕ
memory_words bytes = map number (first_chunks 4 (length bytes / 4) bytes)

-- a name and a number
abbrev pub number_line : List ℕ → ℕ → List ℕ
number_line name n = name ++ field n ++ line_feed

-- the summary of the run of number n: its end word, its steps, the sum of memory's words after them, and the verdict
abbrev pub summary_of : ℕ → Option End → List Step → List ℕ → Verdict → List ℕ
summary_of n end steps bytes v =
    number_line (codes "gen") n ++ end_line end ++ number_line (codes "steps") (length steps) ++ number_line (codes "exec") (count_by is_exec steps)
    ++ number_line (codes "pieces") (count_by is_piece steps) ++ number_line (codes "sum") (sum (memory_words bytes)) ++ verdict_lines steps v
