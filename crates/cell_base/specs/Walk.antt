-- Reading a text line by line, with a state.
use Rattle.std.specs.Prelude.{◌≡◌, ℕ, suc, ◌+◌, List, [], ◌∷◌, ◌++◌, length, Option, Some, None, Result, Ok, Err}

-- What a line does: it is skipped, or it is an item and makes a new state, or it has no place here.
abbrev pub LineStep : Type 0 → Type 0 → Type 0 → Type 0
LineStep S X F = S → List ℕ → Result (Option (X × S)) F

abbrev pub with_item : {X F : Type 0} → X → Result (List X) (ℕ × F) → Result (List X) (ℕ × F)
with_item x (Ok xs) = Ok (x ∷ xs)
with_item x (Err e) = Err e

abbrev pub follow : {S X F : Type 0} → ℕ → S → (S → Result (List X) (ℕ × F)) → Result (Option (X × S)) F → Result (List X) (ℕ × F)
follow k s go (Ok None) = go s
follow k s go (Ok (Some x)) = with_item x.0 (go x.1)
follow k s go (Err e) = Err (k, e)

abbrev pub at_end : {X F : Type 0} → ℕ → Option F → Result (List X) (ℕ × F)
at_end k None = Ok []
at_end k (Some e) = Err (k, e)

-- The items of the lines, of which the first has number k; or the first line that has no place, and why.
-- What the last state lacks is missing at the line after the last.
unfoldable pub walk : {S X F : Type 0} → LineStep S X F → (S → Option F) → ℕ → S → List (List ℕ) → Result (List X) (ℕ × F)
walk step lacks k s [] = at_end k (lacks s)
walk step lacks k s (line ∷ lines) = follow k s (λ t. walk step lacks (suc k) t lines) (step s line)

-- ---- the same in other words

abbrev pub state_after : {S X : Type 0} → S → Option (X × S) → S
state_after s None = s
state_after s (Some x) = x.1

abbrev pub items_of : {S X : Type 0} → Option (X × S) → List X
items_of None = []
items_of (Some x) = x.0 ∷ []

-- each of the lines has its place, and the last leaves the state t
abbrev pub Leads : {S X F : Type 0} → LineStep S X F → S → List (List ℕ) → S → Type 0
Leads step s [] t = s ≡ t
Leads {S} {X} step s (line ∷ lines) t = (done : Option (X × S)) × (step s line ≡ Ok done) × Leads step (state_after s done) lines t

-- the first of these lines has no place, or none is there and one is missing
abbrev pub Faults : {S X F : Type 0} → LineStep S X F → (S → Option F) → S → List (List ℕ) → F → Type 0
Faults step lacks s [] e = lacks s ≡ Some e
Faults step lacks s (line ∷ lines) e = step s line ≡ Err e

-- All lines before this one have their place, and this one hasn't, or is missing behind the last.
pub record IsFirstFault {S X F : Type 0} (step : LineStep S X F) (lacks : S → Option F) (start : S) (lines : List (List ℕ)) (number : ℕ) (e : F) : Type 0 where
  pub before : List (List ℕ)
  pub rest : List (List ℕ)
  pub state : S
  pub parts : lines ≡ before ++ rest
  pub counted : number ≡ length before + 1
  pub leads : Leads step start before state
  pub faults : Faults step lacks state rest e
