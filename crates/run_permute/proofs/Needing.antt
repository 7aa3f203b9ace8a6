-- What each step of a run needs, step by step.
use Rattle.std.proofs.Common.{◌≡◌, ℕ, ◌+◌, ◌<◌, ◌≤◌, List, [], ◌∷◌, ◌++◌, length, refl, sym, ap, ◌∙◌, subst, arith, ◌⊎◌, inl, inr}
use Rattle.std.proofs.lemmas.Bool.{cases_lt}
use Rattle.std.proofs.lemmas.List.{length_push}
use Rattle.run_permute.specs.Lists.{list_at, steps_in}
use Rattle.run_permute.specs.Needs.{AreNeedsOf, AreNeeds}
use Rattle.run_permute.specs.declared.few.Few.{Few}
use Rattle.run_permute.proofs.Entries.{list-push, list-front}

pub needs-none : (Before : ℕ → ℕ → Type 0) → AreNeeds Before 0 []
needs-none Before = record { all = refl; each = λ j low. absurd (omega arith) }

pub needs-more : (Before : ℕ → ℕ → Type 0) (n : ℕ) (needs : List Few) (v : Few) → AreNeeds Before n needs → AreNeedsOf Before n (steps_in v) → AreNeeds Before (n + 1) (needs ++ v ∷ [])
needs-more Before n needs v are one = record { all = length_push needs v ∙ ap (λ k. k + 1) are.all; each = λ j low. on j (cases_lt j n) low }
  where
    size : length needs ≡ n
    size = are.all

    on : (j : ℕ) → (j < n) ⊎ (n ≤ j) → j < n + 1 → AreNeedsOf Before j (list_at (needs ++ v ∷ []) j)
    on j (inl below) low = subst (AreNeedsOf Before j) (sym (list-front needs v j (omega arith))) (are.each j below)
    on j (inr above) low =
        let e : n ≡ j = omega arith in
        subst (λ k. AreNeedsOf Before k (list_at (needs ++ v ∷ []) k)) e (subst (AreNeedsOf Before n) (sym (list-push needs v) ∙ ap (list_at (needs ++ v ∷ [])) size) one)
