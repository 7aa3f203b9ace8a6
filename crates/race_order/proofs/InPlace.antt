-- A loop that changes each element of a list in its place.
use Rattle.std.proofs.Common.{◌≡◌, ℕ, zero, suc, ◌+◌, ◌<◌, Bool, ◌||◌, List, [], ◌∷◌, ◌++◌, map, length, take, drop, get_or, set, refl, sym, ap, ap₂, ◌∙◌, arith}
use Rattle.std.specs.List.{list_any}
use Rattle.std.proofs.lemmas.List.{get_or_default}
use Rattle.std.proofs.lemmas.List.Edits.{map_over_more}
use Rattle.std.proofs.lemmas.List.Folds.{list_any_more}
use Rattle.race_order.proofs.Passed.{any_map}

at_rest : {X : Type 0} (f : X → X) (xs : List X) (i : ℕ) (d : X) → get_or (map f (take i xs) ++ drop i xs) i d ≡ get_or xs i d
at_rest f [] zero d = refl
at_rest f [] (suc i) d = refl
at_rest f (x ∷ xs) zero d = refl
at_rest f (x ∷ xs) (suc i) d = at_rest f xs i d

long_rest : {X : Type 0} (f : X → X) (xs : List X) (i : ℕ) → length (map f (take i xs) ++ drop i xs) ≡ length xs
long_rest f [] zero = refl
long_rest f [] (suc i) = refl
long_rest f (x ∷ xs) zero = refl
long_rest f (x ∷ xs) (suc i) = ap suc (long_rest f xs i)

-- the next one is as it was
pub as_it_was : {X : Type 0} (f : X → X) (xs ys : List X) (i : ℕ) (d : X) → ys ≡ map f (take i xs) ++ drop i xs → get_or ys i d ≡ get_or xs i d
as_it_was f xs ys i d e = ap (λ l. get_or l i d) e ∙ at_rest f xs i d

-- and becomes what it has to become
pub one_changed : {X : Type 0} (f : X → X) (xs ys : List X) (i : ℕ) (d new : X) → i < length xs → ys ≡ map f (take i xs) ++ drop i xs → new ≡ f (get_or ys i d) → set ys i new ≡ map f (take (i + 1) xs) ++ drop (i + 1) xs
one_changed f xs ys i d new low e is =
    let long : length ys ≡ length xs = ap length e ∙ long_rest f xs i in
    ap (set ys i) is ∙ map_over_more f xs ys i (get_or ys i d) low e (get_or_default ys i d (get_or ys i d) (omega arith))

-- whether one of those so far passes then
pub one_passed : {X : Type 0} (f : X → X) (p : X → Bool) (xs ys : List X) (i : ℕ) (d new : X) (old now : Bool) → i < length xs → ys ≡ map f (take i xs) ++ drop i xs → new ≡ f (get_or ys i d)
    → old ≡ list_any p (map f (take i xs)) → now ≡ p new → (old || now) ≡ list_any p (map f (take (i + 1) xs))
one_passed f p xs ys i d new old now low e is so_far here =
    ap₂ (λ a b. a || b) (so_far ∙ any_map p f (take i xs)) (here ∙ ap p (is ∙ ap f (as_it_was f xs ys i d e)))
    ∙ (sym (list_any_more (λ x. p (f x)) xs i d low) ∙ sym (any_map p f (take (i + 1) xs)))
