-- A list whose first entries were changed, each by itself.
use Rattle.std.proofs.Common.{◌≡◌, ℕ, zero, suc, ◌<◌, List, [], ◌∷◌, length, refl, ap, arith}
use Rattle.std.specs.Prelude.{slice_index_or, slice_set}
use Rattle.run_permute.specs.SettledLists.{AreChanged}

pub changed-none : {X : Type 0} (R : X → X → Type 0) (xs : List X) → AreChanged R 0 xs xs
changed-none R xs = refl

pub changed-at : {X : Type 0} (R : X → X → Type 0) (n : ℕ) (xs ys : List X) (d : X) → AreChanged R n xs ys → slice_index_or ys n d ≡ slice_index_or xs n d
changed-at R zero xs ys d h = ap (λ zs. slice_index_or zs 0 d) h
changed-at R (suc n) [] ys d h = ap (λ zs. slice_index_or zs (suc n) d) h
changed-at R (suc n) (x ∷ xs) [] d h = absurd h
changed-at R (suc n) (x ∷ xs) (y ∷ ys) d h = changed-at R n xs ys d h.1

pub changed-long : {X : Type 0} (R : X → X → Type 0) (n : ℕ) (xs ys : List X) → AreChanged R n xs ys → length ys ≡ length xs
changed-long R zero xs ys h = ap length h
changed-long R (suc n) [] ys h = ap length h
changed-long R (suc n) (x ∷ xs) [] h = absurd h
changed-long R (suc n) (x ∷ xs) (y ∷ ys) h = ap suc (changed-long R n xs ys h.1)

pub changed-more : {X : Type 0} (R : X → X → Type 0) (n : ℕ) (xs ys : List X) (d y : X) → n < length xs → AreChanged R n xs ys → R (slice_index_or xs n d) y → AreChanged R (suc n) xs (slice_set ys n y)
changed-more R zero [] ys d y low h r = absurd (omega arith)
changed-more R zero (x ∷ xs) [] d y low h r = absurd (cc)
changed-more R zero (x ∷ xs) (z ∷ ys) d y low h r = (r, (cc))
changed-more R (suc n) [] ys d y low h r = absurd (omega arith)
changed-more R (suc n) (x ∷ xs) [] d y low h r = absurd h
changed-more R (suc n) (x ∷ xs) (z ∷ ys) d y low h r = (h.0, changed-more R n xs ys d y (omega arith) h.1 r)
