-- A list of each processor.
use Rattle.std.proofs.Common.{◌≡◌, ℕ, zero, suc, ◌<◌, List, [], ◌∷◌, ◌++◌, length, get_or, set, refl, sym, ap, arith}
use Rattle.std.specs.Prelude.{Vec}
use Rattle.std.specs.declared.alloc.Global.{Global}
use Rattle.race_order.specs.declared.lives.Live.{Live}
use Rattle.race_order.specs.Lives.{lives_of}

pub lives_at : (lists : List (Vec Live Global)) (p : ℕ) (v : Vec Live Global) → p < length lists → v ≡ get_or lists p v → lives_of lists p ≡ v.items
lives_at [] p v low e = absurd (omega arith)
lives_at (x ∷ xs) zero v low e = ap (λ (y : Vec Live Global). y.items) (sym e)
lives_at (x ∷ xs) (suc p) v low e = lives_at xs p v (omega arith) e

pub lives_set : (lists : List (Vec Live Global)) (p : ℕ) (v : Vec Live Global) → p < length lists → lives_of (set lists p v) p ≡ v.items
lives_set [] p v low = absurd (omega arith)
lives_set (x ∷ xs) zero v low = refl
lives_set (x ∷ xs) (suc p) v low = lives_set xs p v (omega arith)

pub lives_kept : (lists : List (Vec Live Global)) (p q : ℕ) (v : Vec Live Global) → (p ≡ q → ⊥) → lives_of (set lists p v) q ≡ lives_of lists q
lives_kept [] p q v ne = refl
lives_kept (x ∷ xs) zero zero v ne = absurd (ne refl)
lives_kept (x ∷ xs) zero (suc q) v ne = refl
lives_kept (x ∷ xs) (suc p) zero v ne = refl
lives_kept (x ∷ xs) (suc p) (suc q) v ne = lives_kept xs p q v (λ e. ne (ap suc e))

-- one more list, which is empty
pub none_more : (lists : List (Vec Live Global)) (v : Vec Live Global) (p : ℕ) → v.items ≡ [] → lives_of lists p ≡ [] → lives_of (lists ++ (v ∷ [])) p ≡ []
none_more [] v zero e f = e
none_more [] v (suc p) e f = refl
none_more (x ∷ xs) v zero e f = f
none_more (x ∷ xs) v (suc p) e f = none_more xs v p e f
