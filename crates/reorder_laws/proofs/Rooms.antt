-- Distinct numbers that all stand in a list are no more than it has.
use Rattle.std.proofs.Common.{◌≡◌, ℕ, zero, suc, ◌+◌, ◌<◌, ◌≤◌, refl, sym, ◌∙◌, ap, subst, arith, Bool, true, false, List, [], ◌∷◌, length, cond, inl, inr}
use Rattle.std.specs.Prelude.{◌⊎◌, ◌==◌, ◌||◌, filter, Contains, Some}
use Rattle.std.specs.List.{range_with_len}
use Rattle.std.proofs.lemmas.Bool.{cases_Bool, ne_eqb, eqb-true, false≢true}
use Rattle.std.proofs.lemmas.Option.{slice_get-get_or}
use Rattle.reorder_laws.specs.Cuts.{has}
use Rattle.reorder_laws.proofs.Fronts.{has_at}

pub has_from : (xs : List ℕ) (x : ℕ) → Contains xs x → has xs x ≡ true
has_from xs x c = has_at xs c.0 x (slice_get-get_or xs c.0 x c.1 ∙ ap Some c.2)

-- a list without one of its entries
record Without (us : List ℕ) (a : ℕ) : Type 0 where
  rest : List ℕ
  shorter : length us ≡ suc (length rest)
  keeps : (b : ℕ) → (a ≡ b → ⊥) → has us b ≡ true → has rest b ≡ true

without : (us : List ℕ) (a : ℕ) → has us a ≡ true → Without us a
unfolding has
without [] a h = absurd (false≢true h)
without (u ∷ us) a h = go (cases_Bool (u == a)) (without us a)
  where
    or_true : (x : Bool) → (x || true) ≡ true
    or_true true = refl
    or_true false = refl

    go : ((u == a) ≡ true) ⊎ ((u == a) ≡ false) → (has us a ≡ true → Without us a) → Without (u ∷ us) a
    go (inl e) rec = record {
      rest = us;
      shorter = refl;
      keeps = λ b ne t. sym (ap (λ x. x || has us b) (ne_eqb u b (λ q. ne (sym (eqb-true u a e) ∙ q)))) ∙ t;
    }
    go (inr e) rec =
        let w = rec (sym (ap (λ x. x || has us a) e) ∙ h) in
        record {
          rest = u ∷ w.rest;
          shorter = ap suc w.shorter;
          keeps = λ b ne t. kept w b ne (cases_Bool (u == b)) t;
        }
      where
        kept : (w : Without us a) (b : ℕ) → (a ≡ b → ⊥) → ((u == b) ≡ true) ⊎ ((u == b) ≡ false) → (u == b || has us b) ≡ true → (u == b || has w.rest b) ≡ true
        kept w b ne (inl q) t = ap (λ x. x || has w.rest b) q
        kept w b ne (inr q) t = ap (λ x. (u == b) || x) (w.keeps b ne (sym (ap (λ x. x || has us b) q) ∙ t)) ∙ or_true (u == b)

pub few_of : (f : ℕ → Bool) (us : List ℕ) (a n : ℕ) → ((b : ℕ) → a ≤ b → b < a + n → f b ≡ true → has us b ≡ true) → length (filter f (range_with_len a n)) ≤ length us
few_of f us a zero h = omega arith
few_of f us a (suc n) h = go (λ vs g. few_of f vs (a + 1) n g) (cases_Bool (f a))
  where
    go : ((vs : List ℕ) → ((b : ℕ) → a + 1 ≤ b → b < a + 1 + n → f b ≡ true → has vs b ≡ true) → length (filter f (range_with_len (a + 1) n)) ≤ length vs) → (f a ≡ true) ⊎ (f a ≡ false) → length (cond (f a) (a ∷ filter f (range_with_len (a + 1) n)) (filter f (range_with_len (a + 1) n))) ≤ length us
    go later (inl t) =
        let w = without us a (h a (omega arith) (omega arith) t) in
        let l = later w.rest (λ b low high g. w.keeps b (λ e. omega (arith, e, low)) (h b (omega (arith, low)) (omega (arith, high)) g)) in
        subst (λ x. length (cond x (a ∷ filter f (range_with_len (a + 1) n)) (filter f (range_with_len (a + 1) n))) ≤ length us) (sym t) (omega (arith, l, w.shorter))
    go later (inr t) =
        subst (λ x. length (cond x (a ∷ filter f (range_with_len (a + 1) n)) (filter f (range_with_len (a + 1) n))) ≤ length us) (sym t)
        (later us (λ b low high g. h b (omega (arith, low)) (omega (arith, high)) g))
