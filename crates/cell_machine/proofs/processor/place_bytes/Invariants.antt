use Rattle.std.proofs.Common.{◌≡◌, drop}
use Rattle.cell_machine.specs.Opening.{placed_in}
use Rattle.cell_machine.specs.Limits.{shown}
use Rattle.cell_machine.proofs.processor.place_bytes.Given as goal

-- what is left to place makes of the store what all makes of the old one
abbrev pub invariant-loop-piece : goal.invariant-loop-piece
invariant-loop-piece l =
    placed_in l.fn.store l.spe (shown l.placed) ≡ placed_in l.store l.spe (drop l.piece-index (shown l.placed))
