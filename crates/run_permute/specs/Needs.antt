-- The steps that each step needs directly: what else is ordered before it is ordered before one of these.
use Rattle.std.specs.Prelude.{◌≡◌, ℕ, ◌<◌, ◌⊎◌, List, length}
use Rattle.run_permute.specs.SettledLists.{IsIn}
use Rattle.run_permute.specs.Lists.{list_at}
use Rattle.run_permute.specs.declared.few.Few.{Few}

-- i is one of them or ordered before one of them
pub record IsCovered (Before : ℕ → ℕ → Type 0) (needs : List ℕ) (i : ℕ) : Type 0 where
  pub need : ℕ
  pub within : IsIn need needs
  pub covers : (i ≡ need) ⊎ Before i need

-- they are ordered before step j, and cover every step that is
pub record AreNeedsOf (Before : ℕ → ℕ → Type 0) (j : ℕ) (needs : List ℕ) : Type 0 where
  pub sound : (i : ℕ) → IsIn i needs → Before i j
  pub complete : (i : ℕ) → Before i j → IsCovered Before needs i

-- those of each of the first n steps
pub record AreNeeds (Before : ℕ → ℕ → Type 0) (n : ℕ) (needs : List Few) : Type 0 where
  pub all : length needs ≡ n
  pub each : (j : ℕ) → j < n → AreNeedsOf Before j (list_at needs j)
