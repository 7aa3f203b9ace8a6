-- The first element of a list that a test lets through.
use Rattle.std.proofs.Common.{◌≡◌, ℕ, zero, suc, ◌+◌, ◌<◌, Bool, true, false, List, [], ◌∷◌, ◌++◌, length, take, get_or, None, Some, refl, arith, if◌then◌else◌}
use Rattle.std.specs.List.{find}
use Rattle.std.proofs.lemmas.List.{take_more}

-- none among the elements before a place, and the one there
pub find_here : {X : Type 0} (p : X → Bool) (xs : List X) (i : ℕ) (d : X) → i < length xs → find p (take i xs) ≡ None → p (get_or xs i d) ≡ true → find p xs ≡ Some (get_or xs i d)
find_here p [] i d inside none is = absurd (omega (arith, inside))
find_here p (x ∷ xs) zero d inside none is = rw is refl
find_here {X} p (x ∷ xs) (suc i) d inside none is = by (p x) (find_here p xs i d (omega (arith, inside))) none
  where
    by : (b : Bool) → (find p (take i xs) ≡ None → p (get_or xs i d) ≡ true → find p xs ≡ Some (get_or xs i d)) → (if b then Some x else find p (take i xs)) ≡ None
        → (if b then Some x else find p xs) ≡ Some (get_or xs i d)
    by true rest none = absurd (cc)
    by false rest none = rest none is

none_more : {X : Type 0} (p : X → Bool) (ys : List X) (z : X) → find p ys ≡ None → p z ≡ false → find p (ys ++ z ∷ []) ≡ None
none_more p [] z none is = rw is refl
none_more {X} p (y ∷ ys) z none is = by (p y) (none_more p ys z) none
  where
    by : (b : Bool) → (find p ys ≡ None → p z ≡ false → find p (ys ++ z ∷ []) ≡ None) → (if b then Some y else find p ys) ≡ None → (if b then Some y else find p (ys ++ z ∷ [])) ≡ None
    by true rest none = absurd (cc)
    by false rest none = rest none is

-- none among those up to a place
pub find_more : {X : Type 0} (p : X → Bool) (xs : List X) (i : ℕ) (d : X) → i < length xs → find p (take i xs) ≡ None → p (get_or xs i d) ≡ false → find p (take (i + 1) xs) ≡ None
find_more p xs i d inside none is = rw (take_more xs i d inside) (none_more p (take i xs) (get_or xs i d) none is)
