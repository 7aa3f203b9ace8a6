use Rattle.std.proofs.Common.{◌≡◌, take}
use Rattle.cell_machine.specs.Limits.{shown}
use Rattle.cell_machine.proofs.setup.copy_placed.Given as goal

-- the pieces so far were copied
abbrev pub invariant-loop-piece : goal.invariant-loop-piece
invariant-loop-piece l = shown l.copies.items ≡ shown (take l.piece-index l.pieces)
