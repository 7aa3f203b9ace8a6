use Rattle.std.proofs.Common.{◌≡◌, ℕ, ◌<◌}
use Rattle.run_permute.specs.Choices.{IsSeen, IsSound}
use Rattle.run_permute.proofs.order.Order.new.Given as goal

abbrev pub invariant-loop-step : goal.invariant-loop-step
invariant-loop-step l = record { steps : l.order.steps ≡ l.initial.order.steps; sound : IsSound l.needs l.order; seen : (k : ℕ) → k < l.step → IsSeen l.needs l.order k }
