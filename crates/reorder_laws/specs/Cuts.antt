-- The first places of an order that keeps the ordered pairs, and how far they have come in a class of places.
use Rattle.std.specs.Prelude.{◌≡◌, ℕ, ◌<◌, ◌≤◌, ◌==◌, ◌||◌, nat_lt, Bool, true, false, List, [], ◌∷◌}

-- whether the place is one of these
unfoldable pub has : List ℕ → ℕ → Bool
has [] i = false
has (k ∷ ks) i = k == i || has ks i

-- no place stands there twice
abbrev pub Distinct : List ℕ → Type 0
Distinct [] = Unit {0}
Distinct (k ∷ ks) = (has ks k ≡ false) × Distinct ks

-- j may come behind these places of n, which are distinct: it isn't one of them, all that is ordered before it is, and nothing that is ordered behind it
pub record IsFront (Before : ℕ → ℕ → Type 0) (n : ℕ) (D : List ℕ) (j : ℕ) : Type 0 where
  pub distinct : Distinct D
  pub low : j < n
  pub fresh : has D j ≡ false
  pub past : (i : ℕ) → i < n → Before i j → has D i ≡ true
  pub future : (i : ℕ) → i < n → has D i ≡ true → Before j i → ⊥

-- the places in D that are of the class C are those below b that are
abbrev pub IsCut : ℕ → (ℕ → Bool) → List ℕ → ℕ → Type 0
IsCut n C D b = (i : ℕ) → i < n → C i ≡ true → has D i ≡ nat_lt i b

-- v is what the recorded run shows at a place up to which D has come in the class
pub record Shows (n : ℕ) (C : ℕ → Bool) {V : Type 0} (look : ℕ → V) (D : List ℕ) (v : V) : Type 0 where
  pub place : ℕ
  pub within : place ≤ n
  pub cut : IsCut n C D place
  pub same : v ≡ look place
