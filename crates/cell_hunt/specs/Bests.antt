-- The best of the steps that were looked at.
use Rattle.std.specs.Prelude.{◌≡◌, ℕ, Bool, false, nat_le, List, [], Option, Some, None}
use Rattle.cell_base.specs.declared.steps.Step.{Step}
use Rattle.cell_hunt.specs.declared.offers.Keyed.{Keyed}
use Rattle.cell_hunt.specs.Offers.{IsGreatest}

-- this is the first of them with the greatest key, beside its key; there are none where it is None
abbrev pub IsBestOf : (Step → ℕ) → List Step → Option Keyed → Type 0
IsBestOf key steps None = steps ≡ []
IsBestOf key steps (Some best) = IsGreatest key steps best.step × (best.key ≡ key best.step)

-- it has a key that is at least as great as this
abbrev pub is_beaten : ℕ → Option Keyed → Bool
is_beaten key None = false
is_beaten key (Some best) = nat_le key best.key
