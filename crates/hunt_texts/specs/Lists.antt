-- Texts one after the other.
use Rattle.std.specs.Prelude.{ℕ, suc, ◌==◌, nat_lt, Bool, ◌||◌, List, [], ◌∷◌, ◌++◌, codes, if◌then◌else◌}

-- the texts of the elements, which depend on their places: the first element has place i
unfoldable pub from_place : {X : Type 0} → (ℕ → X → List ℕ) → ℕ → List X → List ℕ
from_place text i [] = []
from_place text i (x ∷ xs) = text i x ++ from_place text (suc i) xs

-- what separates the element at a place from those before it
abbrev pub separator : ℕ → List ℕ
separator i = if i == 0 then [] else codes ", "

-- a number of runs, and what is printed of them
pub record Item : Type 0 where
  pub runs : ℕ
  pub text : List ℕ

abbrev pub gap_text : Bool → List ℕ
gap_text begun = if begun then codes ", " else []

-- nothing if there is no such run
unfoldable pub item_text : Bool → Item → List ℕ
item_text begun i = if i.runs == 0 then [] else gap_text begun ++ i.text

-- the items that some run has, separated by commas
abbrev pub items_text : Bool → List Item → List ℕ
items_text begun [] = []
items_text begun (i ∷ is) = item_text begun i ++ items_text (begun || nat_lt 0 i.runs) is
