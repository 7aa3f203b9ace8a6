-- The last element of a list with a property, and the last elements, as the list gets one more.
use Rattle.std.proofs.Common.{◌≡◌, ℕ, suc, ◌+◌, ◌-◌, ◌≤◌, Bool, true, false, List, [], ◌∷◌, ◌++◌, length, drop, refl, sym, ap, ◌∙◌, arith, Option, Some, None, append-nil}
use Rattle.std.specs.Prelude.{cond, filter, fold, min, max, slice_get}
use Rattle.std.specs.List.{last_or}
use Rattle.std.specs.Option.{option_map_or}
use Rattle.std.proofs.lemmas.List.{drop-append-le, drop-drop, length-append, length-drop}
use Rattle.std.proofs.lemmas.List.Elements.{filter-append}
use Rattle.std.proofs.Math.Nat.{min-eq_left}
use Rattle.run_progress.specs.Progress.{last_place, last_ones, range_of}

pub last_place-more : {X : Type 0} (f : X → Bool) (xs : List X) (x : X) → last_place f (xs ++ x ∷ []) ≡ cond (f x) (Some (length xs)) (last_place f xs)
last_place-more f [] x = refl
last_place-more f (y ∷ xs) x = ap (λ o. option_map_or (λ i. Some (suc i)) o (cond (f y) (Some 0) None)) (last_place-more f xs x) ∙ on (f x)
  where
    on : (b : Bool) → option_map_or (λ i. Some (suc i)) (cond b (Some (length xs)) (last_place f xs)) (cond (f y) (Some 0) None)
        ≡ cond b (Some (suc (length xs))) (option_map_or (λ i. Some (suc i)) (last_place f xs) (cond (f y) (Some 0) None))
    on true = refl
    on false = refl

-- it lies in the list
pub last_place-within : {X : Type 0} (f : X → Bool) (xs : List X) → option_map_or suc (last_place f xs) 0 ≤ length xs
last_place-within f [] = omega arith
last_place-within f (x ∷ xs) = on (last_place f xs) (f x) (last_place-within f xs)
  where
    on : (o : Option ℕ) (b : Bool) → option_map_or suc o 0 ≤ length xs → option_map_or suc (option_map_or (λ i. Some (suc i)) o (cond b (Some 0) None)) 0 ≤ suc (length xs)
    on (Some i) b h = omega (arith, h)
    on None true h = omega arith
    on None false h = omega arith

pub last_or-more : {X : Type 0} (o : Option X) (xs : List X) (x : X) → last_or o (xs ++ x ∷ []) ≡ Some x
last_or-more o [] x = refl
last_or-more o (y ∷ xs) x = last_or-more (Some y) xs x

-- the last element with a property, where the list has one more
pub last_of-more : {X : Type 0} (f : X → Bool) (xs : List X) (x : X) → last_or None (filter f (xs ++ x ∷ [])) ≡ cond (f x) (Some x) (last_or None (filter f xs))
last_of-more {X} f xs x = ap (last_or None) (filter-append f xs (x ∷ [])) ∙ on (f x) refl
  where
    on : (b : Bool) → f x ≡ b → last_or None (filter f xs ++ cond b (x ∷ []) []) ≡ cond b (Some x) (last_or None (filter f xs))
    on true e = last_or-more None (filter f xs) x
    on false e = ap (last_or None) (append-nil (filter f xs))

-- of the last n elements and one more the last n are those of the list with one more
pub last_ones-more : {X : Type 0} (n : ℕ) (xs : List X) (x : X) → last_ones n (last_ones n xs ++ x ∷ []) ≡ last_ones n (xs ++ x ∷ [])
last_ones-more n xs x =
    let k = length xs - n in
    let long : length (drop k xs ++ x ∷ []) ≡ length (drop k xs) + 1 = length-append (drop k xs) (x ∷ []) in
    let left : length (drop k xs) ≡ length xs - k = length-drop k xs in
    let whole : length (xs ++ x ∷ []) ≡ length xs + 1 = length-append xs (x ∷ []) in
    let low : k ≤ length xs = omega arith in
    let same : k + (length (drop k xs ++ x ∷ []) - n) ≡ length (xs ++ x ∷ []) - n = omega arith in
    sym (ap (drop (length (drop k xs ++ x ∷ []) - n)) (drop-append-le k xs (x ∷ []) low))
    ∙ drop-drop (length (drop k xs ++ x ∷ []) - n) k (xs ++ x ∷ [])
    ∙ ap (λ i. drop i (xs ++ x ∷ [])) same

pub last_ones-few : {X : Type 0} (n : ℕ) (xs : List X) → length (last_ones n xs) ≤ n
last_ones-few n xs = let left : length (drop (length xs - n) xs) ≡ length xs - (length xs - n) = length-drop (length xs - n) xs in omega arith

-- ---- the range of addresses

max-same : (n : ℕ) → max n n ≡ n
max-same n = grind arith

pub range-from-first : (xs : List ℕ) (first : ℕ) → slice_get xs 0 ≡ Some first → range_of xs ≡ Some (record { least = fold min first xs; greatest = fold max first xs })
range-from-first [] first at = absurd (cc)
range-from-first (x ∷ xs) first at =
    let same : first ≡ x = cc in
    let low : fold min first (x ∷ xs) ≡ fold min x xs = ap (λ n. fold min (min n x) xs) same ∙ ap (λ n. fold min n xs) (min-eq_left (omega arith)) in
    let high : fold max first (x ∷ xs) ≡ fold max x xs = ap (λ n. fold max (max n x) xs) same ∙ ap (λ n. fold max n xs) (max-same x) in
    rw (low, high) refl
