-- A list whose first entries were changed, each by itself.
use Rattle.std.proofs.Common.{ℕ, zero, suc, ◌<◌, ◌≤◌, List, [], ◌∷◌, length, sym, subst, arith}
use Rattle.std.specs.Prelude.{slice_index_or, slice_set}
use Rattle.run_permute.specs.SettledLists.{Each, AreChanged}

-- where a property goes over from each entry to what it became, it goes over to the list
pub changed-each : {X : Type 0} (R : X → X → Type 0) (P Q : X → Type 0) (n : ℕ) (xs ys : List X) → length xs ≤ n → AreChanged R n xs ys → ((x y : X) → R x y → P x → Q y) → Each P xs → Each Q ys
changed-each {X} R P Q zero [] ys long h go each = subst (Each Q) (sym h) tt
changed-each R P Q zero (x ∷ xs) ys long h go each = absurd (omega arith)
changed-each {X} R P Q (suc n) [] ys long h go each = subst (Each Q) (sym h) tt
changed-each R P Q (suc n) (x ∷ xs) [] long h go each = absurd h
changed-each R P Q (suc n) (x ∷ xs) (y ∷ ys) long h go each = (go x y h.0 each.0, changed-each R P Q n xs ys (omega arith) h.1 go each.1)

-- ---- each entry

pub each-from : {X : Type 0} (P : X → Type 0) (xs : List X) → ((k : ℕ) (d : X) → k < length xs → P (slice_index_or xs k d)) → Each P xs
each-from P [] h = tt
each-from P (x ∷ xs) h = (h 0 x (omega arith), each-from P xs (λ k d low. h (suc k) d (omega arith)))

pub each-set : {X : Type 0} (P : X → Type 0) (xs : List X) (k : ℕ) (x : X) → Each P xs → P x → Each P (slice_set xs k x)
each-set P [] k x h p = tt
each-set P (y ∷ ys) zero x h p = (p, h.1)
each-set P (y ∷ ys) (suc k) x h p = (h.0, each-set P ys k x h.1 p)
