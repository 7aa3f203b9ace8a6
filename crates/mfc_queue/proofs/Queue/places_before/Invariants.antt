use Rattle.std.proofs.Common.{◌≡◌, ℕ, ◌==◌, ◌&&◌, take}
use Rattle.std.specs.List.{list_any}
use Rattle.mfc_command.specs.Order.{precedes}
use Rattle.cell_base.specs.Bits.{has_bit}
use Rattle.mfc_queue.proofs.Queue.places_before.Given as goal

abbrev pub invariant-loop-i : goal.invariant-loop-i
invariant-loop-i l = (place : ℕ) → has_bit l.places.bits place ≡ list_any (λ h. h.place == place && precedes h.command l.later) (take l.i l.self.held.items)
