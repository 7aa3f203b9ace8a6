-- A list of which one element passes a test.
use Rattle.std.proofs.Common.{◌≡◌, ℕ, zero, suc, ◌+◌, ◌<◌, Bool, true, false, ◌||◌, List, [], ◌∷◌, map, length, take, drop, get_or, set, refl, sym, ap, ap₂, ◌∙◌, subst, arith}
use Rattle.std.specs.Prelude.{All as Each}
use Rattle.std.proofs.lemmas.List.Folds.{list_any_none}
use Rattle.std.specs.List.{list_any}
use Rattle.race_order.specs.Sole.{IsSole}

neither : (a b : Bool) → (a || b) ≡ false → (a ≡ false) × (b ≡ false)
neither true b e = absurd cc
neither false b e = (refl, e)

or_off : (a b : Bool) → b ≡ false → (a || b) ≡ a
or_off true b e = refl
or_off false b e = e

none_so : {X : Type 0} (p q : X → Bool) (xs : List X) → ((x : X) → p x ≡ false → q x ≡ false) → list_any p xs ≡ false → list_any q xs ≡ false
none_so p q [] h e = refl
none_so p q (x ∷ xs) h e = let n = neither (p x) (list_any p xs) e in ap (λ b. b || list_any q xs) (h x n.0) ∙ none_so p q xs h n.1

all_still : {X : Type 0} (p : X → Bool) (f : X → X) (xs : List X) → ((x : X) → p x ≡ false → f x ≡ x) → list_any p xs ≡ false → map f xs ≡ xs
all_still p f [] h e = refl
all_still p f (x ∷ xs) h e = let n = neither (p x) (list_any p xs) e in ap₂ (λ y ys. y ∷ ys) (h x n.0) (all_still p f xs h n.1)

any_one : {X : Type 0} (p q : X → Bool) (xs : List X) (i : ℕ) (d : X) → ((x : X) → p x ≡ false → q x ≡ false) → i < length xs → list_any p (take i xs) ≡ false → list_any p (drop (suc i) xs) ≡ false → list_any q xs ≡ q (get_or xs i d)
any_one p q [] i d h low b e = absurd (omega arith)
any_one p q (x ∷ xs) zero d h low b e = or_off (q x) (list_any q xs) (none_so p q xs h e)
any_one p q (x ∷ xs) (suc i) d h low b e =
    let n = neither (p x) (list_any p (take i xs)) b in
    ap (λ c. c || list_any q xs) (h x n.0) ∙ any_one p q xs i d h (omega arith) n.1 e

one_moved : {X : Type 0} (p : X → Bool) (f : X → X) (xs : List X) (i : ℕ) (d : X) → ((x : X) → p x ≡ false → f x ≡ x) → i < length xs → list_any p (take i xs) ≡ false → list_any p (drop (suc i) xs) ≡ false → set xs i (f (get_or xs i d)) ≡ map f xs
one_moved p f [] i d h low b e = absurd (omega arith)
one_moved p f (x ∷ xs) zero d h low b e = ap (λ ys. f x ∷ ys) (sym (all_still p f xs h e))
one_moved p f (x ∷ xs) (suc i) d h low b e =
    let n = neither (p x) (list_any p (take i xs)) b in
    ap₂ (λ y ys. y ∷ ys) (sym (h x n.0)) (one_moved p f xs i d h (omega arith) n.1 e)

behind_it : {X : Type 0} (p : X → Bool) (xs : List X) (i : ℕ) → IsSole p xs i → list_any p (drop (suc i) xs) ≡ false
behind_it p xs i s = let same : i + 1 ≡ suc i = omega arith in subst (λ n. list_any p (drop n xs) ≡ false) same s.behind

-- of what no other element passes, some passes exactly where it does
pub any_sole : {X : Type 0} (p q : X → Bool) (xs : List X) (i : ℕ) (d : X) → ((x : X) → p x ≡ false → q x ≡ false) → IsSole p xs i → list_any q xs ≡ q (get_or xs i d)
any_sole p q xs i d h s = any_one p q xs i d h s.inside s.before (behind_it p xs i s)

-- what changes no other element changes it alone
pub map_sole : {X : Type 0} (p : X → Bool) (f : X → X) (xs : List X) (i : ℕ) (d : X) → ((x : X) → p x ≡ false → f x ≡ x) → IsSole p xs i → set xs i (f (get_or xs i d)) ≡ map f xs
map_sole p f xs i d h s = one_moved p f xs i d h s.inside s.before (behind_it p xs i s)

any_as : {X : Type 0} (p q : X → Bool) (xs : List X) → ((x : X) → p x ≡ q x) → list_any p xs ≡ list_any q xs
any_as p q [] h = refl
any_as p q (x ∷ xs) h = ap₂ (λ a b. a || b) (h x) (any_as p q xs h)

pub sole_as : {X : Type 0} (p q : X → Bool) (xs : List X) (i : ℕ) → ((x : X) → p x ≡ q x) → IsSole p xs i → IsSole q xs i
sole_as p q xs i h s = record {
  inside = s.inside;
  here = λ d. sym (h (get_or xs i d)) ∙ s.here d;
  before = sym (any_as p q (take i xs) h) ∙ s.before;
  behind = sym (any_as p q (drop (i + 1) xs) h) ∙ s.behind;
}

any_in : {X : Type 0} (p : X → Bool) (xs : List X) (i : ℕ) (x : X) → i < length xs → list_any p xs ≡ false → p x ≡ list_any p (set xs i x)
any_in p [] i x low e = absurd (omega arith)
any_in p (y ∷ xs) zero x low e = let n = neither (p y) (list_any p xs) e in sym (or_off (p x) (list_any p xs) n.1)
any_in p (y ∷ xs) (suc i) x low e = let n = neither (p y) (list_any p xs) e in any_in p xs i x (omega arith) n.1 ∙ sym (ap (λ b. b || list_any p (set xs i x)) n.0)

-- where none passed, some passes after one was changed exactly where that one does
pub set_done : {X : Type 0} (p : X → Bool) (xs : List X) (i : ℕ) (x : X) → i < length xs → Each (λ y. p y ≡ false) xs → p x ≡ list_any p (set xs i x)
set_done p xs i x low each = any_in p xs i x low (list_any_none p xs each)
