-- The numbers below one.
use Rattle.std.proofs.Common.{◌≡◌, ℕ, zero, suc, ◌+◌, ◌<◌, Bool, true, false, ◌||◌, ◌&&◌, List, [], ◌∷◌, ◌++◌, map, filter, ◌⊎◌, inl, inr, refl, sym, ap, ◌∙◌, subst, arith}
use Rattle.std.specs.List.{list_any}
use Rattle.std.proofs.lemmas.Bool.{or_cases, or_left, or_right, cases_order}
use Rattle.std.specs.Prelude.{if◌then◌else◌}
use Rattle.std.proofs.lemmas.List.{map-append}
use Rattle.std.proofs.lemmas.List.Elements.{filter-append}
use Rattle.std.proofs.lemmas.List.Folds.{list_any-append}
use Rattle.race_order.specs.Ordering.{below}

pub below_none : below 0 ≡ []
unfolding below
below_none = refl

pub below_more : (k : ℕ) → below (k + 1) ≡ below k ++ (k ∷ [])
unfolding below
below_more k = let e : k + 1 ≡ suc k = omega arith in ap below e

pub map_snoc : {X Y : Type 0} (f : X → Y) (xs : List X) (x : X) → map f (xs ++ (x ∷ [])) ≡ map f xs ++ (f x ∷ [])
map_snoc f [] x = refl
map_snoc f (y ∷ ys) x = ap (λ l. f y ∷ l) (map_snoc f ys x)

-- what passes below
pub below_any : (p : ℕ → Bool) (n : ℕ) → list_any p (below n) ≡ true → (k : ℕ) × (k < n) × (p k ≡ true)
unfolding below
below_any p zero e = cc
below_any p (suc n) e = by (or_cases (list_any p (below n)) (list_any p (n ∷ [])) (sym (list_any-append p (below n) (n ∷ [])) ∙ e)) (λ f. below_any p n f)
  where
    by : (list_any p (below n) ≡ true) ⊎ (list_any p (n ∷ []) ≡ true) → (list_any p (below n) ≡ true → (k : ℕ) × (k < n) × (p k ≡ true)) → (k : ℕ) × (k < suc n) × (p k ≡ true)
    by (inl f) rest = let r = rest f in (r.0, (let l : r.0 < n = r.1 in omega arith), r.2)
    by (inr f) rest = one (or_cases (p n) false f)
      where
        one : (p n ≡ true) ⊎ (false ≡ true) → (k : ℕ) × (k < suc n) × (p k ≡ true)
        one (inl g) = (n, omega arith, g)
        one (inr g) = cc

pub any_below : (p : ℕ → Bool) (n k : ℕ) → k < n → p k ≡ true → list_any p (below n) ≡ true
unfolding below
any_below p zero k low e = absurd (omega arith)
any_below p (suc n) k low e = list_any-append p (below n) (n ∷ []) ∙ by (cases_order k n) (λ l. any_below p n k l e)
  where
    by : (k ≡ n) ⊎ ((k < n) ⊎ (n < k)) → (k < n → list_any p (below n) ≡ true) → (list_any p (below n) || list_any p (n ∷ [])) ≡ true
    by (inl q) rest = or_right (list_any p (below n)) _ (or_left (p n) false (subst (λ x. p x ≡ true) q e))
    by (inr (inl l)) rest = or_left (list_any p (below n)) _ (rest l)
    by (inr (inr g)) rest = absurd (omega arith)

-- what passes of the numbers below n that are picked, by what they are mapped to
abbrev pub any_picked : {Y : Type 0} (bit : ℕ → Bool) (f : ℕ → Y) (p : Y → Bool) (n : ℕ) → Bool
any_picked bit f p n = list_any p (map f (filter bit (below n)))

pub none_picked : {Y : Type 0} (bit : ℕ → Bool) (f : ℕ → Y) (p : Y → Bool) (old : Bool) → old ≡ (old || any_picked bit f p 0)
none_picked bit f p old = or_none old ∙ ap (λ l. old || list_any p (map f (filter bit l))) (sym below_none)
  where
    or_none : (b : Bool) → b ≡ (b || false)
    or_none true = refl
    or_none false = refl

pub one_picked : {Y : Type 0} (bit : ℕ → Bool) (f : ℕ → Y) (p : Y → Bool) (n : ℕ) (old mid new : Bool) → mid ≡ (old || any_picked bit f p n) → new ≡ (mid || (bit n && p (f n))) → new ≡ (old || any_picked bit f p (n + 1))
one_picked bit f p n old mid new e g =
    g ∙ (ap (λ b. b || (bit n && p (f n))) e ∙ (or_assoc old (any_picked bit f p n) (bit n && p (f n)) ∙ ap (λ b. old || b) (sym whole)))
  where
    or_assoc : (a b c : Bool) → ((a || b) || c) ≡ (a || (b || c))
    or_assoc true b c = refl
    or_assoc false b c = refl

    last : (b : Bool) → list_any p (map f (if b then n ∷ [] else [])) ≡ (b && p (f n))
    last true = or_none (p (f n))
      where
        or_none : (b : Bool) → (b || false) ≡ b
        or_none true = refl
        or_none false = refl
    last false = refl

    whole : any_picked bit f p (n + 1) ≡ (any_picked bit f p n || (bit n && p (f n)))
    whole =
        ap (λ l. list_any p (map f (filter bit l))) (below_more n)
        ∙ (ap (λ l. list_any p (map f l)) (filter-append bit (below n) (n ∷ []))
        ∙ (ap (list_any p) (map-append f (filter bit (below n)) (filter bit (n ∷ [])))
        ∙ (list_any-append p (map f (filter bit (below n))) (map f (filter bit (n ∷ []))) ∙ ap (λ b. any_picked bit f p n || b) (last (bit n)))))
