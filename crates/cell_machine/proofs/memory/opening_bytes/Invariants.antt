use Rattle.std.proofs.Common.{◌≡◌, ◌*◌, length, drop}
use Rattle.cell_base.specs.Bytes.{zeros}
use Rattle.cell_machine.specs.Opening.{filled}
use Rattle.cell_machine.specs.Limits.{shown_memory}
use Rattle.cell_machine.proofs.memory.opening_bytes.Given as goal

-- what is left to place makes of the memory what all makes of zeros
abbrev pub invariant-loop-piece : goal.invariant-loop-piece
invariant-loop-piece l = record {
  so_far : filled (zeros (128 * l.lines)) (shown_memory l.pieces) ≡ filled l.bytes (drop l.piece-index (shown_memory l.pieces));
  long : length l.bytes ≡ 128 * l.lines;
}
