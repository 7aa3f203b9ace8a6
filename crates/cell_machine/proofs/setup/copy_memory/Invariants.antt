use Rattle.std.proofs.Common.{◌≡◌, take}
use Rattle.cell_machine.specs.Limits.{shown_memory}
use Rattle.cell_machine.proofs.setup.copy_memory.Given as goal

-- the pieces so far were copied
abbrev pub invariant-loop-piece : goal.invariant-loop-piece
invariant-loop-piece l = shown_memory l.copies.items ≡ shown_memory (take l.piece-index l.pieces)
