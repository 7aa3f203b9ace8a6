-- Lists of numbers.
use Rattle.std.specs.Prelude.{◌≡◌, ℕ, zero, suc, ◌<◌, ◌⊎◌, List, [], ◌∷◌, Option, Some, None, length, slice_index_or, slice_set}
use Rattle.run_permute.specs.SettledLists.{IsIn}
use Rattle.run_permute.specs.declared.few.Few.{Few}

-- each is below those behind it
abbrev pub IsRising : List ℕ → Type 0
IsRising [] = Unit {0}
IsRising (x ∷ xs) = ((y : ℕ) → IsIn y xs → x < y) × IsRising xs

-- the number, if there is one, in front of others
abbrev pub in_front : Option ℕ → List ℕ → List ℕ
in_front None xs = xs
in_front (Some x) xs = x ∷ xs

abbrev pub steps_in : Few → List ℕ
steps_in f = in_front f.first f.rest.items

-- the list at this place, [] behind the last
abbrev pub list_at : List Few → ℕ → List ℕ
list_at [] i = []
list_at (v ∷ vs) zero = steps_in v
list_at (v ∷ vs) (suc i) = list_at vs i

-- it holds of one of them
abbrev pub One : {X : Type 0} → (X → Type 0) → List X → Type 0
One P [] = ⊥
One P (x ∷ xs) = P x ⊎ One P xs

-- there is an entry at the index, and P holds of it
pub record HasAt {X : Type 0} (P : X → Type 0) (xs : List X) (index : ℕ) : Type 0 where
  pub within : index < length xs
  pub holds : (d : X) → P (slice_index_or xs index d)

-- in place of one entry there is another, to which it became so
pub record IsOneChanged {X : Type 0} (R : X → X → Type 0) (xs ys : List X) : Type 0 where
  pub index : ℕ
  pub entry : X
  pub within : index < length xs
  pub changed : R (slice_index_or xs index entry) entry
  pub is : ys ≡ slice_set xs index entry
