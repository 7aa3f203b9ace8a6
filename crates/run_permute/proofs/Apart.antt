-- Numbers that differ from one another.
use Rattle.std.proofs.Common.{◌≡◌, ℕ, suc, ◌<◌, ◌≤◌, ◌==◌, Bool, true, false, List, [], ◌∷◌, length, refl, sym, ◌∙◌, subst, arith, ◌⊎◌, inl, inr}
use Rattle.std.specs.Prelude.{if◌then◌else◌}
use Rattle.std.proofs.lemmas.Bool.{eqb-true, eq-eqb}
use Rattle.run_permute.specs.SettledLists.{IsIn, AreApart}

-- the numbers without x
without : ℕ → List ℕ → List ℕ
without x [] = []
without x (y ∷ ys) = if y == x then without x ys else y ∷ without x ys

fewer : (x : ℕ) (ys : List ℕ) → length (without x ys) ≤ length ys
unfolding without
fewer x [] = omega arith
fewer x (y ∷ ys) = on (y == x) (fewer x ys)
  where
    on : (b : Bool) → length (without x ys) ≤ length ys → length (if b then without x ys else y ∷ without x ys) ≤ suc (length ys)
    on true rest = omega arith
    on false rest = omega arith

less : (x : ℕ) (ys : List ℕ) → IsIn x ys → length (without x ys) < length ys
unfolding without
less x [] h = absurd h
less x (y ∷ ys) h = on (y == x) refl h (λ r. less x ys r)
  where
    clash : false ≡ true → ⊥
    clash k = cc

    on : (b : Bool) → (y == x) ≡ b → (y ≡ x) ⊎ IsIn x ys → (IsIn x ys → length (without x ys) < length ys) → length (if b then without x ys else y ∷ without x ys) < suc (length ys)
    on true e h rest = let f = fewer x ys in omega arith
    on false e (inl h) rest = absurd (clash (sym e ∙ eq-eqb y x h))
    on false e (inr h) rest = let f = rest h in omega arith

kept : (x z : ℕ) (ys : List ℕ) → (z ≡ x → ⊥) → IsIn z ys → IsIn z (without x ys)
unfolding without
kept x z [] apart h = absurd h
kept x z (y ∷ ys) apart h = on (y == x) refl h (λ r. kept x z ys apart r)
  where
    on : (b : Bool) → (y == x) ≡ b → (y ≡ z) ⊎ IsIn z ys → (IsIn z ys → IsIn z (without x ys)) → IsIn z (if b then without x ys else y ∷ without x ys)
    on true e (inl h) rest = absurd (apart (sym h ∙ eqb-true y x e))
    on true e (inr h) rest = rest h
    on false e (inl h) rest = inl h
    on false e (inr h) rest = inr (rest h)

-- numbers that differ and are all among some others are no more than those
pub fit-in : (xs ys : List ℕ) → AreApart xs → ((x : ℕ) → IsIn x xs → IsIn x ys) → length xs ≤ length ys
fit-in [] ys apart all = omega arith
fit-in (x ∷ xs) ys apart all =
    let few = fit-in xs (without x ys) apart.1 (λ z h. kept x z ys (λ same. apart.0 (subst (λ u. IsIn u xs) same h)) (all z (inr h))) in
    let low = less x ys (all x (inl refl)) in
    omega arith
