-- A run with one more step: its earlier places stay as they are.
use Rattle.std.proofs.Common.{◌≡◌, ℕ, zero, suc, ◌+◌, ◌<◌, ◌≤◌, List, [], ◌∷◌, ◌++◌, length, take, Option, Some, ◌⊎◌, inl, inr, refl, sym, ap, ◌∙◌, subst, arith, length-append}
use Rattle.std.specs.Prelude.{slice_get}
use Rattle.std.proofs.lemmas.Bool.{cases_order}
use Rattle.std.proofs.lemmas.List.{take-append-le, take_all}
use Rattle.std.proofs.lemmas.Option.{slice_get_within}

pub get_front : {X : Type 0} (xs ys : List X) (i : ℕ) → i < length xs → slice_get (xs ++ ys) i ≡ slice_get xs i
get_front [] ys i low = absurd (omega arith)
get_front (x ∷ xs) ys zero low = refl
get_front (x ∷ xs) ys (suc i) low = get_front xs ys i (omega arith)

pub get_last : {X : Type 0} (xs : List X) (y : X) → slice_get (xs ++ (y ∷ [])) (length xs) ≡ Some y
get_last [] y = refl
get_last (x ∷ xs) y = get_last xs y

pub get_take : {X : Type 0} (xs : List X) (n i : ℕ) → i < n → slice_get (take n xs) i ≡ slice_get xs i
get_take xs zero i low = absurd (omega arith)
get_take [] (suc n) i low = refl
get_take (x ∷ xs) (suc n) zero low = refl
get_take (x ∷ xs) (suc n) (suc i) low = get_take xs n i (omega arith)

pub same_get : {X : Type 0} (o : Option X) (x y : X) → o ≡ Some x → o ≡ Some y → x ≡ y
same_get o x y e f = cc

module _ {X : Type 0} (xs : List X) (x : X) where
  pub longer : length (xs ++ (x ∷ [])) ≡ length xs + 1
  longer = length-append xs (x ∷ [])

  -- a place of the longer list is one of the list, or the last
  pub place_of : (i : ℕ) (y : X) → slice_get (xs ++ (x ∷ [])) i ≡ Some y → ((i < length xs) × (slice_get xs i ≡ Some y)) ⊎ ((i ≡ length xs) × (x ≡ y))
  place_of i y e = at (cases_order i (length xs))
    where
      within : i < length (xs ++ (x ∷ []))
      within = slice_get_within (xs ++ (x ∷ [])) i y e

      at : (i ≡ length xs) ⊎ ((i < length xs) ⊎ (length xs < i)) → ((i < length xs) × (slice_get xs i ≡ Some y)) ⊎ ((i ≡ length xs) × (x ≡ y))
      at (inl q) = inr (q, same_get (slice_get (xs ++ (x ∷ [])) i) x y (subst (λ k. slice_get (xs ++ (x ∷ [])) k ≡ Some x) (sym q) (get_last xs x)) e)
      at (inr (inl low)) = inl (low, sym (get_front xs (x ∷ []) i low) ∙ e)
      at (inr (inr high)) = let n : length (xs ++ (x ∷ [])) ≡ length xs + 1 = longer in let w : i < length (xs ++ (x ∷ [])) = within in absurd (omega arith)

  pub take_front : (i : ℕ) → i ≤ length xs → take i (xs ++ (x ∷ [])) ≡ take i xs
  take_front i low = take-append-le i xs (x ∷ []) low

  pub take_whole : take (length xs + 1) (xs ++ (x ∷ [])) ≡ xs ++ (x ∷ [])
  take_whole = let n : length (xs ++ (x ∷ [])) ≡ length xs + 1 = longer in take_all (length xs + 1) (xs ++ (x ∷ [])) (omega arith)

  pub take_before : take (length xs) (xs ++ (x ∷ [])) ≡ xs
  take_before = take_front (length xs) (omega arith) ∙ take_all (length xs) xs (omega arith)

  pub get_later : (i : ℕ) (y : X) → slice_get xs i ≡ Some y → slice_get (xs ++ (x ∷ [])) i ≡ Some y
  get_later i y e = get_front xs (x ∷ []) i (slice_get_within xs i y e) ∙ e

pub get_there : {X : Type 0} (xs : List X) (i : ℕ) → i < length xs → (x : X) × (slice_get xs i ≡ Some x)
get_there [] i low = absurd (omega arith)
get_there (x ∷ xs) zero low = (x, refl)
get_there (x ∷ xs) (suc i) low = get_there xs i (omega arith)

pub take_step : {X : Type 0} (xs : List X) (i : ℕ) (x : X) → slice_get xs i ≡ Some x → take (suc i) xs ≡ take i xs ++ (x ∷ [])
take_step [] i x e = absurd cc
take_step (y ∷ xs) zero x e = let s : y ≡ x = cc in ap (λ z. z ∷ []) s
take_step (y ∷ xs) (suc i) x e = ap (λ l. y ∷ l) (take_step xs i x e)
