-- Small laws on tests and lists.
use Rattle.std.proofs.Common.{◌≡◌, ℕ, zero, suc, ◌<◌, ◌&&◌, ◌||◌, Bool, true, false, List, [], ◌∷◌, length, arith, refl, sym, ◌∙◌, true≢false}
use Rattle.std.specs.Prelude.{Some, slice_get, cond}

pub and-off : (a b : Bool) → a ≡ false → (a && b) ≡ false
and-off true b h = absurd (true≢false h)
and-off false b h = refl

pub and-false : (b : Bool) → (b && false) ≡ false
and-false true = refl
and-false false = refl

pub not-yet : (a b : Bool) → (a ≡ true → b ≡ true) → b ≡ false → a ≡ false
not-yet true b h k = absurd (true≢false (sym (h refl) ∙ k))
not-yet false b h k = refl

pub off-same : {X : Type 0} (b : Bool) (x y : X) → b ≡ false → cond b x y ≡ y
off-same b x y h = rw h refl

pub on-same : {X : Type 0} (b : Bool) (x y : X) → b ≡ true → cond b x y ≡ x
on-same b x y h = rw h refl

pub get-there : {X : Type 0} (xs : List X) (i : ℕ) → i < length xs → (x : X) × (slice_get xs i ≡ Some x)
get-there [] i h = absurd (omega (arith, h))
get-there (x ∷ xs) zero h = (x, refl)
get-there (x ∷ xs) (suc i) h = get-there xs i (omega (arith, h))

-- a set that took something, and then something more of the same
pub took_more : (old x y k : Bool) → ((old || (x && k)) || (y && k)) ≡ (old || ((x || y) && k))
took_more true x y k = refl
took_more false true y true = refl
took_more false true y false = and-false y
took_more false false y k = refl
