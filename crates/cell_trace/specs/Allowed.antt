-- The text of what may come next: the instruction at the PC of each processor, and each step that is allowed.
use Rattle.std.specs.Prelude.{ℕ, suc, nat_lt, if◌then◌else◌, List, [], ◌∷◌, ◌++◌, length, codes}
use Rattle.std.specs.List.{flat_map}
use Rattle.cell_base.specs.declared.steps.Actor.{Actor}
use Rattle.cell_base.specs.declared.steps.Step.{Step}
use Rattle.cell_base.specs.Records.{line_feed, step_line}
use Rattle.cell_machine.specs.Spe.{Spe}
use Rattle.cell_machine.specs.State.{State}
use Rattle.cell_machine.specs.Run.{allowed, actors}
use Rattle.cell_trace.specs.Fields.{numbers}
use Rattle.cell_trace.specs.Effects.{store_word}

-- the line of processor p: its number, and the instruction word at its PC
abbrev pub at_line : ℕ → Spe → List ℕ
at_line p P = codes "at" ++ numbers (p ∷ store_word P.store P.pc ∷ []) ++ line_feed

-- the lines of the processors from number p on
unfoldable pub at_lines : ℕ → List Spe → List ℕ
at_lines p [] = []
at_lines p (P ∷ spes) = at_line p P ++ at_lines (suc p) spes

-- the line of a step: the word `may`, and the step's line in a record
abbrev pub may_line : Step → List ℕ
may_line s = codes "may " ++ step_line s

-- the steps that an actor may make next; none if the budget is spent
abbrev pub next_steps : State → ℕ → Actor → List Step
next_steps M budget actor = if nat_lt (length M.steps) budget then allowed M actor else []

-- the text at state M of a machine with this budget: a line for each processor, and then one for each allowed step of each actor (the processors, their MFCs,
-- the host)
abbrev pub allowed_of : State → ℕ → List ℕ
allowed_of M budget = at_lines 0 M.spes ++ flat_map may_line (flat_map (next_steps M budget) (actors M))
