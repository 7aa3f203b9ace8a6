-- Sets that take in one thing after another.
use Rattle.std.proofs.Common.{◌≡◌, ℕ, ◌+◌, ◌<◌, Bool, ◌||◌, ◌&&◌, List, ◌++◌, length, take, get_or, sym, ap, ◌∙◌}
use Rattle.std.specs.List.{list_any}
use Rattle.std.proofs.lemmas.List.Folds.{list_any-append, list_any_more}
use Rattle.race_order.proofs.SameRole.{or_assoc}
use Rattle.race_order.proofs.Small.{took_more}

-- what passes in the first list, and then what passes in the second
pub grown : {X : Type 0} (p : X → Bool) (xs ys : List X) (old mid new : Bool) → mid ≡ (old || list_any p xs) → new ≡ (mid || list_any p ys) → new ≡ (old || list_any p (xs ++ ys))
grown p xs ys old mid new e f =
    f ∙ (ap (λ b. b || list_any p ys) e ∙ (or_assoc old (list_any p xs) (list_any p ys) ∙ ap (λ b. old || b) (sym (list_any-append p xs ys))))

-- the same where each takes in what k says
pub entered : {X : Type 0} (p : X → Bool) (k : Bool) (xs ys : List X) (old mid new : Bool) → mid ≡ (old || (list_any p xs && k)) → new ≡ (mid || (list_any p ys && k)) → new ≡ (old || (list_any p (xs ++ ys) && k))
entered p k xs ys old mid new e f =
    f ∙ (ap (λ b. b || (list_any p ys && k)) e ∙ (took_more old (list_any p xs) (list_any p ys) k ∙ ap (λ b. old || (b && k)) (sym (list_any-append p xs ys))))

-- a loop over what passes
pub one_more : {X : Type 0} (p : X → Bool) (xs : List X) (i : ℕ) (d : X) (old mid new : Bool) → i < length xs → mid ≡ (old || list_any p (take i xs)) → new ≡ (mid || p (get_or xs i d)) → new ≡ (old || list_any p (take (i + 1) xs))
one_more p xs i d old mid new low e f =
    f ∙ (ap (λ b. b || p (get_or xs i d)) e ∙ (or_assoc old (list_any p (take i xs)) (p (get_or xs i d)) ∙ ap (λ b. old || b) (sym (list_any_more p xs i d low))))
