-- The reordering of a number: place by place, of the steps that may stand there, the one that the number chooses.
use Rattle.std.specs.Prelude.{◌≡◌, ℕ, ◌+◌, ◌*◌, ◌%◌, ◌<◌, ◌↔◌, List, length, take, Some, slice_get}
use Rattle.cell_machine.specs.Run.{Ran, state_of}
use Rattle.cell_machine.specs.State.{State}
use Rattle.race_check.specs.Reorderings.{at_places}
use Rattle.reorder_laws.specs.OrderedLaws.{IsOrdered}
use Rattle.reorder_laws.specs.Theorem.{IsSameEnd}
use Rattle.run_permute.specs.SettledLists.{IsIn}
use Rattle.run_permute.specs.Lists.{IsRising}

-- step j of n isn't taken, and every step that is ordered before it is
pub record IsFree (Before : ℕ → ℕ → Type 0) (n : ℕ) (taken : List ℕ) (j : ℕ) : Type 0 where
  pub within : j < n
  pub left : IsIn j taken → ⊥
  pub ready : (i : ℕ) → i < n → Before i j → IsIn i taken

-- the free steps by their places
pub record AreFree (Before : ℕ → ℕ → Type 0) (n : ℕ) (taken free : List ℕ) : Type 0 where
  pub rising : IsRising free
  pub exactly : (j : ℕ) → IsIn j free ↔ IsFree Before n taken j

-- where these are taken, i in number, the free step at position number (i + 1), modulo how many they are, is j
pub record IsChosen (Before : ℕ → ℕ → Type 0) (n number : ℕ) (taken : List ℕ) (j : ℕ) : Type 0 where
  pub free : List ℕ
  pub are : AreFree Before n taken free
  pub some : 0 < length free
  pub chosen : slice_get free ((number * (length taken + 1)) % length free) ≡ Some j

-- each of these steps is chosen where those before it are taken
abbrev pub AreChosen : (ℕ → ℕ → Type 0) → ℕ → ℕ → List ℕ → Type 0
AreChosen Before n number order = (i j : ℕ) → slice_get order i ≡ Some j → IsChosen Before n number (take i order) j

-- all n steps, each so chosen
pub record IsNthOf (Before : ℕ → ℕ → Type 0) (n number : ℕ) (order : List ℕ) : Type 0 where
  pub all : length order ≡ n
  pub each : AreChosen Before n number order

-- of the steps of a run, by their order
abbrev pub IsNth : Ran → ℕ → List ℕ → Type 0
IsNth m number order = IsNthOf (IsOrdered m) (length m.steps) number order

-- a run of the steps of m in the order of the number, from the same setup
pub record IsReordered (m : Ran) (number : ℕ) (x : Ran) : Type 0 where
  pub setup : x.setup ≡ m.setup
  pub order : List ℕ
  pub nth : IsNth m number order
  pub steps : x.steps ≡ at_places m.steps order

-- the other run ends in the state in which m does, but for the record, the order of some lists and the pending events
abbrev pub EndsAlike : Ran → Ran → Type 0
EndsAlike m x = (M N : State) → state_of m ≡ Some M → state_of x ≡ Some N → IsSameEnd M N
