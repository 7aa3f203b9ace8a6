-- Which program is asked, and for what.
use Rattle.std.specs.Prelude.{ℕ, List, [], ◌∷◌, codes, if◌then◌else◌}
use Rattle.cell_commands.specs.Words as cell
use Rattle.hunt_command.specs.Words as hunt
use Rattle.trace_commands.specs.Words as trace

pub data Asked : Type 0 where
  by_cell : cell.Spoken → Asked
  by_hunt : hunt.Spoken → Asked
  by_trace : trace.Spoken → Asked

-- `cell` makes no run here: `run` is the form `alone` of run_trace, and `gen` is none
abbrev pub without_runs : cell.Spoken → Asked
without_runs (cell.run machine) = by_trace (trace.alone machine)
without_runs (cell.gen n) = by_cell cell.no_form
without_runs spoken = by_cell spoken

-- what words ask for: those of `hunt` and of run_trace stand behind a first one, and all others are those of `cell`
abbrev pub asked_by : List (List ℕ) → Asked
asked_by [] = by_cell cell.no_form
asked_by (word ∷ more) =
    if cell.is_word word (codes "hunt") then by_hunt (hunt.spoken more)
    else if cell.is_word word (codes "trace") then by_trace (trace.spoken more)
    else without_runs (cell.spoken (word ∷ more))
