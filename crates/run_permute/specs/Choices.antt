-- Steps that are put into an order, one after the other.
use Rattle.std.specs.Prelude.{◌≡◌, ℕ, ◌<◌, ◌⊎◌, ◌↔◌, ◌++◌, ◌∷◌, [], Bool, true, List, length, Some, slice_get}
use Rattle.run_permute.specs.SettledLists.{IsIn}
use Rattle.run_permute.specs.Lists.{IsRising, list_at}
use Rattle.run_permute.specs.declared.few.Few.{Few}
use Rattle.run_permute.specs.declared.order.Order.{Order}

abbrev pub IsTaken : List Bool → ℕ → Type 0
IsTaken taken i = slice_get taken i ≡ Some true

-- step j is there and not taken, and all are taken that it needs
pub record IsReady (needs : List Few) (taken : List Bool) (j : ℕ) : Type 0 where
  pub within : j < length taken
  pub left : IsTaken taken j → ⊥
  pub needs_taken : (i : ℕ) → IsIn i (list_at needs j) → IsTaken taken i

-- the steps that each step needs are there
abbrev pub AreInside : List Few → Type 0
AreInside needs = (i j : ℕ) → IsIn i (list_at needs j) → i < length needs

-- step j waits for one that it needs and that isn't taken
pub record IsWaiting (needs : List Few) (o : Order) (j : ℕ) : Type 0 where
  pub at : ℕ
  pub needed : IsIn at (list_at needs j)
  pub left : IsTaken o.taken.items at → ⊥
  pub listed : IsIn j (list_at o.waiting.items at)

-- step j is taken, or free, or waits
abbrev pub IsSeen : List Few → Order → ℕ → Type 0
IsSeen needs o j = IsTaken o.taken.items j ⊎ (IsIn j o.free.items ⊎ IsWaiting needs o j)

-- the steps of the order are taken, the free ones are ready, and those that wait are there
pub record IsSound (needs : List Few) (o : Order) : Type 0 where
  pub long : length o.taken.items ≡ length needs
  pub lists : length o.waiting.items ≡ length needs
  pub taken : (j : ℕ) → IsTaken o.taken.items j ↔ IsIn j o.steps.items
  pub rising : IsRising o.free.items
  pub ready : (j : ℕ) → IsIn j o.free.items → IsReady needs o.taken.items j
  pub there : (i j : ℕ) → IsIn j (list_at o.waiting.items i) → j < length needs

-- and each step is seen, so that the free ones are all that are ready
pub record IsStage (needs : List Few) (o : Order) : Type 0 where
  pub sound : IsSound needs o
  pub seen : (j : ℕ) → j < length needs → IsSeen needs o j

-- the free step at the position comes behind the steps
pub record IsOneMore (free : List ℕ) (at : ℕ) (steps more : List ℕ) : Type 0 where
  pub step : ℕ
  pub chosen : slice_get free at ≡ Some step
  pub is : more ≡ steps ++ step ∷ []
