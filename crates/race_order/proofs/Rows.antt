-- A bucket with one more row.
use Rattle.std.proofs.Common.{◌≡◌, Bool, ◌&&◌, ◌||◌, true, false, List, [], ◌∷◌, ◌++◌, refl, ap}
use Rattle.std.specs.List.{list_any}

-- one more that doesn't pass
pub any_push_none : {X : Type 0} (p : X → Bool) (xs : List X) (x : X) → p x ≡ false → list_any p (xs ++ (x ∷ [])) ≡ list_any p xs
any_push_none p [] x e = ap (λ b. b || false) e
any_push_none p (y ∷ xs) x e = ap (λ b. p y || b) (any_push_none p xs x e)

pub and_none : (a b : Bool) → b ≡ false → (a && b) ≡ false
and_none true b e = e
and_none false b e = refl
