-- What pends, as a step goes on.
use Rattle.std.proofs.Common.{◌≡◌, ℕ, ◌+◌, ◌<◌, ◌≤◌, Bool, true, false, refl, arith, ◌⊎◌, inl, inr, subst}
use Rattle.std.proofs.lemmas.Bool.{cases_lt}
use Rattle.std.specs.Prelude.{◌↔◌, ◌||◌, ◌&&◌, not}
use Rattle.run_permute.specs.Online.{Pends}

module _ (Begins Ends : ℕ → Type 0) (k : ℕ) where
  pub none-after : (x : ℕ) → k < x → x < k + 1 → ⊥
  none-after x more less = omega arith

  pub below-next : k < k + 1
  below-next = omega arith

  abbrev pub begun : Begins k → Pends Begins Ends (k + 1)
  begun b = record { place = k; below = below-next; begins = b; goes_on = λ x more less e. none-after x more less }

  pub lower : (p : Pends Begins Ends k) → p.place < k + 1
  lower p = let low : p.place < k = p.below in omega arith

  pub goes-on : (Ends k → ⊥) → (p : Pends Begins Ends k) → (x : ℕ) → p.place < x → x < k + 1 → Ends x → ⊥
  goes-on none p x more less e = on (cases_lt x k)
    where
      on : (x < k) ⊎ (k ≤ x) → ⊥
      on (inl low) = p.goes_on x more low e
      on (inr high) = let same : x ≡ k = omega arith in none (subst Ends same e)

  abbrev pub stays : (Ends k → ⊥) → Pends Begins Ends k → Pends Begins Ends (k + 1)
  stays none p = record { place = p.place; below = lower p; begins = p.begins; goes_on = goes-on none p }

  back : Pends Begins Ends (k + 1) → Begins k ⊎ ((Ends k → ⊥) × Pends Begins Ends k)
  back p = on (cases_lt p.place k)
    where
      on : (p.place < k) ⊎ (k ≤ p.place) → Begins k ⊎ ((Ends k → ⊥) × Pends Begins Ends k)
      on (inl low) = inr (λ e. p.goes_on k low (omega arith) e, record { place = p.place; below = low; begins = p.begins; goes_on = λ x more less e. p.goes_on x more (omega arith) e })
      on (inr high) = let less : p.place < k + 1 = p.below in let same : p.place ≡ k = omega arith in inl (subst Begins same p.begins)

  -- the flag after step k
  pub pends_next : (flag begins ends : Bool) → (flag ≡ true) ↔ Pends Begins Ends k → (begins ≡ true) ↔ Begins k → (ends ≡ true) ↔ Ends k
      → ((begins || (flag && not ends)) ≡ true) ↔ Pends Begins Ends (k + 1)
  pends_next flag true ends f b e = (λ h. begun (b.0 refl), λ p. refl)
  pends_next true false true f b e = (λ h. absurd (cc), λ p. elim (back p) [ inl x ↦ absurd (no (b.1 x)) | inr x ↦ absurd (x.0 (e.0 refl)) ])
    where
      no : false ≡ true → ⊥
      no h = cc
  pends_next true false false f b e = (λ h. stays (λ x. no (e.1 x)) (f.0 refl), λ p. refl)
    where
      no : false ≡ true → ⊥
      no h = cc
  pends_next false false ends f b e = (λ h. absurd (cc), λ p. elim (back p) [ inl x ↦ absurd (no (b.1 x)) | inr x ↦ absurd (no (f.1 x.1)) ])
    where
      no : false ≡ true → ⊥
      no h = cc

  -- the flag stays where neither kind of step is made
  pub pends_same : (Begins k → ⊥) → (Ends k → ⊥) → (flag : Bool) → (flag ≡ true) ↔ Pends Begins Ends k → (flag ≡ true) ↔ Pends Begins Ends (k + 1)
  pends_same no_begin no_end flag f = (λ h. stays no_end (f.0 h), λ p. f.1 (on (back p)))
    where
      on : Begins k ⊎ ((Ends k → ⊥) × Pends Begins Ends k) → Pends Begins Ends k
      on (inl b) = absurd (no_begin b)
      on (inr r) = r.1
