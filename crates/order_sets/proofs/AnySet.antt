-- Some element passes after one was made to pass more.
use Rattle.std.proofs.Common.{◌≡◌, ℕ, ◌+◌, ◌++◌, take, zero, suc, ◌<◌, Bool, true, false, ◌||◌, List, [], ◌∷◌, length, filter, get_or, set, refl, ap, sym, ◌∙◌, arith}
use Rattle.std.specs.List.{list_any}
use Rattle.std.proofs.lemmas.List.Folds.{list_any_more}

pub first_more : (a b rest more : Bool) → b ≡ (a || more) → (b || rest) ≡ ((a || rest) || more)
first_more true b rest more e = ap (λ x. x || rest) e
first_more false b true true e = ap (λ x. x || true) e
first_more false b true false e = ap (λ x. x || true) e
first_more false b false true e = ap (λ x. x || false) e
first_more false b false false e = ap (λ x. x || false) e

later_more : (a rest new more : Bool) → new ≡ (rest || more) → (a || new) ≡ ((a || rest) || more)
later_more true rest new more e = refl
later_more false rest new more e = e

pub any_set : {X : Type 0} (p : X → Bool) (xs : List X) (i : ℕ) (new d : X) (more : Bool) → i < length xs → p new ≡ (p (get_or xs i d) || more) → list_any p (set xs i new) ≡ (list_any p xs || more)
any_set p [] i new d more low e = absurd (omega arith)
any_set p (x ∷ xs) zero new d more low e = first_more (p x) (p new) (list_any p xs) more e
any_set p (x ∷ xs) (suc i) new d more low e = later_more (p x) (list_any p xs) (list_any p (set xs i new)) more (any_set p xs i new d more (omega arith) e)

-- where what isn't kept is so of w anyway
pub any_kept : {X : Type 0} (p keep : X → Bool) (w : Bool) (xs : List X) → ((x : X) → keep x ≡ false → p x ≡ true → w ≡ true) → (w || list_any p (filter keep xs)) ≡ (w || list_any p xs)
any_kept p keep w [] h = refl
any_kept {X} p keep w (x ∷ xs) h = on (keep x) (p x) refl refl (any_kept p keep w xs h)
  where
    within : (b : Bool) → (w || list_any p (filter keep xs)) ≡ (w || list_any p xs) → (w || (b || list_any p (filter keep xs))) ≡ (w || (b || list_any p xs))
    within true e = refl
    within false e = e

    on : (k b : Bool) → keep x ≡ k → p x ≡ b → (w || list_any p (filter keep xs)) ≡ (w || list_any p xs) → (w || list_any p (filter keep (x ∷ xs))) ≡ (w || (p x || list_any p xs))
    on true b e f rest = rw e (within (p x) rest)
    on false true e f rest = rw (e, h x e f) refl
    on false false e f rest = rw (e, f) rest

pub any_snoc : {X : Type 0} (p : X → Bool) (xs : List X) (x : X) → list_any p (xs ++ (x ∷ [])) ≡ (list_any p xs || p x)
any_snoc p [] x = or_none (p x)
  where
    or_none : (v : Bool) → (v || false) ≡ v
    or_none true = refl
    or_none false = refl
any_snoc p (y ∷ ys) x = ap (λ v. p y || v) (any_snoc p ys x) ∙ assoc (p y) (list_any p ys) (p x)
  where
    assoc : (a b c : Bool) → (a || (b || c)) ≡ ((a || b) || c)
    assoc true b c = refl
    assoc false b c = refl

pub any_take : {X : Type 0} (p : X → Bool) (xs : List X) (i : ℕ) (x : X) → i < length xs → x ≡ get_or xs i x → list_any p (take (i + 1) xs) ≡ (list_any p (take i xs) || p x)
any_take p xs i x low e = list_any_more p xs i x low ∙ ap (λ y. list_any p (take i xs) || p y) (sym e)
