-- The keys of races, one after the other.
use Rattle.std.proofs.Common.{◌≡◌, ℕ, ◌+◌, ◌<◌, List, [], ◌∷◌, ◌++◌, length, map, take, get_or, ap, sym, ◌∙◌}
use Rattle.std.proofs.lemmas.List.{map_push, take_more}
use Rattle.cell_hunt.specs.declared.site.Sites.{Sites}

-- one more key
pub keys_step : (f : Sites → List ℕ) (races : List Sites) (i : ℕ) (d race : Sites) (new old : List (List ℕ)) → i < length races → race ≡ get_or races i d → old ≡ map f (take i races) → new ≡ old ++ f race ∷ [] → new ≡ map f (take (i + 1) races)
keys_step f races i d race new old inside is before more =
    let here : new ≡ map f (take i races) ++ f race ∷ [] = more ∙ ap (λ (xs : List (List ℕ)). xs ++ f race ∷ []) before in
    let there : map f (take i races) ++ f race ∷ [] ≡ map f (take i races) ++ f (get_or races i d) ∷ [] = ap (λ (r : Sites). map f (take i races) ++ f r ∷ []) is in
    let all : map f (take (i + 1) races) ≡ map f (take i races) ++ f (get_or races i d) ∷ [] = ap (map f) (take_more races i d inside) ∙ map_push f (take i races) (get_or races i d) in
    here ∙ there ∙ sym all
