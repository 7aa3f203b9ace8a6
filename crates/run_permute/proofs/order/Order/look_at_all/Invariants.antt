use Rattle.std.proofs.Common.{◌≡◌, ℕ, take, ◌⊎◌}
use Rattle.run_permute.specs.SettledLists.{IsIn}
use Rattle.run_permute.specs.Choices.{IsSeen, IsSound}
use Rattle.run_permute.proofs.order.Order.look_at_all.Given as goal

abbrev pub invariant-loop-step : goal.invariant-loop-step
invariant-loop-step l =
    record {
      steps : l.self.steps ≡ l.initial.self.steps;
      sound : IsSound l.needs l.self;
      seen : (k : ℕ) → IsSeen l.needs l.initial.self k ⊎ IsIn k (take l.step-index l.steps) → IsSeen l.needs l.self k;
    }
