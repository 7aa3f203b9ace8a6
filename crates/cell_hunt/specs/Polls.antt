-- Polls of what nobody has written since.
use Rattle.std.specs.Prelude.{◌==◌, Bool, true, false, if◌then◌else◌, slice_get}
use Rattle.std.specs.Option.{option_map_or}
use Rattle.cell_base.specs.declared.steps.Step.{Step}
use Rattle.cell_base.specs.declared.steps.Step.TheVariants.{Exec, Piece, Elem, Retire, Atomic, Host}
use Rattle.mfc_command.specs.declared.command.AtomicKind.{AtomicKind}
use Rattle.mfc_command.specs.declared.command.AtomicKind.TheVariants.{GetLine, PutCond, PutLine}
use Rattle.mfc_command.specs.declared.command.AtomicOp.{AtomicOp}
use Rattle.cell_machine.specs.Spe.{Spe}
use Rattle.cell_machine.specs.State.{State}
use Rattle.cell_machine.specs.Shown.{line_held_by}
use Rattle.cell_machine.specs.Run.{Ran, state_of}

abbrev pub is_get_line : AtomicKind → Bool
is_get_line GetLine = true
is_get_line PutCond = false
is_get_line PutLine = false

-- a GETLLAR of the line that its processor reserved last, where no store has touched the line since
abbrev pub gets_again : State → Spe → AtomicOp → Bool
gets_again M P a = if is_get_line a.kind then option_map_or (λ line. line == a.line) (line_held_by M.memory P) false else false

abbrev pub polls : State → Spe → Bool
polls M P = option_map_or (gets_again M P) P.channels.slot false

-- whether a step is such a poll
abbrev pub is_poll_in : State → Step → Bool
is_poll_in M (Atomic p) = option_map_or (polls M) (slice_get M.spes p) false
is_poll_in M (Exec p) = false
is_poll_in M (Piece p c e k) = false
is_poll_in M (Elem p c) = false
is_poll_in M (Retire p c) = false
is_poll_in M Host = false

abbrev pub is_poll : Ran → Step → Bool
is_poll m s = option_map_or (λ M. is_poll_in M s) (state_of m) false
