use Rattle.std.proofs.Common.{◌≡◌, ℕ, ◌*◌, ◌<◌, length, take}
use Rattle.unwritten_reads.specs.ByMarks.{has}
use Rattle.unwritten_reads.proofs.Placing.{are_placed}
use Rattle.unwritten_reads.proofs.placed.placed_bytes.Given as goal

abbrev pub invariant-loop-piece : goal.invariant-loop-piece
invariant-loop-piece l =
    record { long : length l.known.marks ≡ 4096 * length l.setup.entries; placed : (p x : ℕ) → x < 262144 → has l.known p x ≡ are_placed (take l.piece-index l.pieces) p x }
