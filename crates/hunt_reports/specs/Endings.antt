-- How a run ends, as text.
use Rattle.std.specs.Prelude.{ℕ, suc, Bool, true, false, List, [], ◌∷◌, ◌++◌, codes, Some}
use Rattle.std.specs.Fmt.{decimal}
use Rattle.cell_base.specs.Hex.{hex}
use Rattle.cell_machine.specs.declared.status.Status.{Status}
use Rattle.cell_machine.specs.declared.status.Status.TheVariants.{Running, Halted, BadWord, BadChannel, DmaFault}
use Rattle.cell_machine.specs.declared.status.End.{End}
use Rattle.cell_machine.specs.declared.status.End.TheVariants.{Stuck, Budget}
use Rattle.cell_machine.specs.Spe.{Spe}
use Rattle.state_lines.specs.Lines.{end_word, status_text}
use Rattle.hunt_reports.specs.declared.ended.AtEnd.{AtEnd}

abbrev pub ended_in : Spe → AtEnd
ended_in P = record { status = P.status; pc = P.pc }

abbrev pub is_fault : Status → Bool
is_fault BadWord = true
is_fault BadChannel = true
is_fault (DmaFault kind) = true
is_fault _ = false

abbrev pub is_halted : Status → Bool
is_halted Halted = true
is_halted _ = false

abbrev pub is_stuck : End → Bool
is_stuck Stuck = true
is_stuck _ = false

abbrev pub is_budget : End → Bool
is_budget Budget = true
is_budget _ = false

-- where a processor is that still runs
abbrev pub pc_text : Status → ℕ → List ℕ
pc_text Running pc = codes " at 0x" ++ hex 5 pc
pc_text _ pc = []

-- processor p
abbrev pub spe_ending : ℕ → AtEnd → List ℕ
spe_ending p e = codes " | " ++ decimal p ++ codes " " ++ status_text e.status ++ pc_text e.status e.pc

-- the processors from number p on
unfoldable pub spe_endings : ℕ → List AtEnd → List ℕ
spe_endings p [] = []
spe_endings p (e ∷ es) = spe_ending p e ++ spe_endings (suc p) es

-- the end word, and each processor
abbrev pub ending_text : End → List AtEnd → List ℕ
ending_text end es = end_word (Some end) ++ spe_endings 0 es
