-- What stands at a place of a list that grew.
use Rattle.std.proofs.Common.{◌≡◌, ℕ, zero, suc, ◌<◌, ap, refl, arith, List, [], ◌∷◌, ◌++◌, length, inl, inr}
use Rattle.std.specs.Prelude.{Some, ◌⊎◌, slice_get}
use Rattle.std.proofs.lemmas.Option.{none-some, same_Some}

pub get-front : {A : Type 0} (xs ys : List A) (k : ℕ) → k < length xs → slice_get (xs ++ ys) k ≡ slice_get xs k
get-front [] ys k low = absurd (omega (arith, low))
get-front (x ∷ xs) ys zero low = refl
get-front (x ∷ xs) ys (suc k) low = get-front xs ys k (omega (arith, low))

pub get-last : {A : Type 0} (xs : List A) (x : A) → slice_get (xs ++ x ∷ []) (length xs) ≡ Some x
get-last [] x = refl
get-last (y ∷ xs) x = get-last xs x

pub get-more : {A : Type 0} (xs : List A) (x : A) (k : ℕ) (y : A) → slice_get (xs ++ x ∷ []) k ≡ Some y → (slice_get xs k ≡ Some y) ⊎ ((k ≡ length xs) × (x ≡ y))
get-more [] x zero y e = inr (refl, same_Some x y e)
get-more [] x (suc k) y e = absurd (none-some y e)
get-more (z ∷ xs) x zero y e = inl e
get-more (z ∷ xs) x (suc k) y e = elim (get-more xs x k y e) [ inl old ↦ inl old | inr new ↦ inr (ap suc new.0, new.1) ]
