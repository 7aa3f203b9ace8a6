-- Elements of lists.
use Rattle.std.proofs.Common.{◌≡◌, ℕ, zero, suc, ◌<◌, ap, refl, sym, subst, ◌∙◌, arith, List, [], ◌∷◌, ◌++◌, length, get_or, filter, map, inl, inr, true≢false}
use Rattle.std.specs.Prelude.{◌⊎◌, Bool, true, false, Some, if◌then◌else◌, slice_get, All, Contains}
use Rattle.std.specs.List.{AllPairs}
use Rattle.std.proofs.lemmas.List.{append-nil}
use Rattle.std.proofs.lemmas.List.Elements.{All-push}
use Rattle.std.proofs.lemmas.List.Quantifiers.{all_pairs_push}

pub get-front : {A : Type 0} (xs ys : List A) (k : ℕ) → k < length xs → slice_get (xs ++ ys) k ≡ slice_get xs k
get-front [] ys k low = absurd (omega (arith, low))
get-front (x ∷ xs) ys zero low = refl
get-front (x ∷ xs) ys (suc k) low = get-front xs ys k (omega (arith, low))

pub get-last : {A : Type 0} (xs : List A) (x : A) → slice_get (xs ++ x ∷ []) (length xs) ≡ Some x
get-last [] x = refl
get-last (y ∷ xs) x = get-last xs x

pub contains-here : {A : Type 0} (x : A) (xs : List A) → Contains (x ∷ xs) x
contains-here x xs = (zero, omega arith, refl)

pub contains-there : {A : Type 0} (x : A) (xs : List A) (y : A) → Contains xs y → Contains (x ∷ xs) y
contains-there x xs y c = (suc c.0, (let low = c.1 in omega (arith, low)), c.2)

pub contains-cases : {A : Type 0} (x : A) (xs : List A) (y : A) → Contains (x ∷ xs) y → (x ≡ y) ⊎ Contains xs y
contains-cases {A} x xs y c = by c.0 c.1 c.2
  where
    by : (k : ℕ) → k < length (x ∷ xs) → get_or (x ∷ xs) k y ≡ y → (x ≡ y) ⊎ Contains xs y
    by zero low is = inl is
    by (suc k) low is = inr (k, omega (arith, low), is)

pub contains-none : {A : Type 0} (y : A) → Contains [] y → ⊥
contains-none y c = (let low = c.1 in omega (arith, low))

-- ---- a filter

pub contains-filter : {A : Type 0} (p : A → Bool) (xs : List A) (y : A) → p y ≡ true → Contains xs y → Contains (filter p xs) y
contains-filter p [] y is c = c
contains-filter {A} p (x ∷ xs) y is c = by (p x) refl (contains-cases x xs y c) (contains-filter p xs y is)
  where
    by : (b : Bool) → p x ≡ b → (x ≡ y) ⊎ Contains xs y → (Contains xs y → Contains (filter p xs) y) → Contains (if b then x ∷ filter p xs else filter p xs) y
    by true e (inl here) rest = subst (λ (z : A). Contains (z ∷ filter p xs) y) (sym here) (contains-here y (filter p xs))
    by true e (inr there) rest = contains-there x (filter p xs) y (rest there)
    by false e (inl here) rest = absurd (true≢false (sym is ∙ ap p (sym here) ∙ e))
    by false e (inr there) rest = rest there

-- ---- one more element, if a test holds

pub all-if : {A : Type 0} (P : A → Type 0) (b : Bool) (x : A) → (b ≡ true → P x) → All P (if b then x ∷ [] else [])
all-if P true x h = All-push P [] x (λ k d low. absurd (omega (arith, low))) (h refl)
all-if P false x h = λ k d low. absurd (omega (arith, low))

pub contains-if : {A : Type 0} (b : Bool) (x : A) → b ≡ true → Contains (if b then x ∷ [] else []) x
contains-if true x h = contains-here x []
contains-if false x h = absurd (true≢false (sym h))

pub pairs-if : {A : Type 0} (R : A → A → Type 0) (xs : List A) (b : Bool) (x : A) → AllPairs R xs → All (λ y. R y x) xs → AllPairs R (xs ++ (if b then x ∷ [] else []))
pairs-if R xs true x pairs all = all_pairs_push R xs x pairs all
pairs-if R xs false x pairs all = subst (AllPairs R) (sym (append-nil xs)) pairs

-- ---- a list that is mapped

pub contains-map : {A B : Type 0} (f : A → B) (xs : List A) (x : A) → Contains xs x → Contains (map f xs) (f x)
contains-map f [] x c = absurd (contains-none x c)
contains-map {A} {B} f (y ∷ xs) x c = by (contains-cases y xs x c) (contains-map f xs x)
  where
    by : (y ≡ x) ⊎ Contains xs x → (Contains xs x → Contains (map f xs) (f x)) → Contains (f y ∷ map f xs) (f x)
    by (inl here) rest = subst (λ (z : B). Contains (z ∷ map f xs) (f x)) (sym (ap f here)) (contains-here (f x) (map f xs))
    by (inr there) rest = contains-there (f y) (map f xs) (f x) (rest there)
