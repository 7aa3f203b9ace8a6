-- The elements of a list that pass a test, one after the other.
use Rattle.std.proofs.Common.{◌≡◌, ℕ, ◌+◌, Bool, true, false, List, [], ◌∷◌, ◌++◌, take, map, filter, refl, sym, ap, ◌∙◌, append_assoc, if◌then◌else◌}
use Rattle.std.specs.Prelude.{Some, slice_get}
use Rattle.std.proofs.lemmas.List.{map-append}
use Rattle.hunt_texts.proofs.RowLemmas.{take_push}
use Rattle.hunt_texts.proofs.GroupLemmas.{filter_push}

module _ {X : Type 0} (test : X → Bool) where
  filter_more : (xs : List X) (i : ℕ) (x : X) → slice_get xs i ≡ Some x → filter test (take (i + 1) xs) ≡ filter test (take i xs) ++ (if test x then x ∷ [] else [])
  filter_more xs i x at = ap (filter test) (take_push xs i x at) ∙ filter_push test (take i xs) x

  -- one element more is looked at
  pub kept_more : (xs made new : List X) (i : ℕ) (x : X) → slice_get xs i ≡ Some x → made ≡ filter test (take i xs) → new ≡ made ++ (if test x then x ∷ [] else [])
      → new ≡ filter test (take (i + 1) xs)
  kept_more xs made new i x at so_far added = added ∙ ap (λ ys. ys ++ (if test x then x ∷ [] else [])) so_far ∙ sym (filter_more xs i x at)

  module _ {Y : Type 0} (view : X → Y) where
    map_kept : (b : Bool) (x : X) → (if b then view x ∷ [] else []) ≡ map view (if b then x ∷ [] else [])
    map_kept true x = refl
    map_kept false x = refl

    -- and what it stands for is added to others
    pub shown_more : (xs : List X) (out made new : List Y) (i : ℕ) (x : X) → slice_get xs i ≡ Some x → made ≡ out ++ map view (filter test (take i xs))
        → new ≡ made ++ (if test x then view x ∷ [] else []) → new ≡ out ++ map view (filter test (take (i + 1) xs))
    shown_more xs out made new i x at so_far added =
        added ∙ ap (λ ys. ys ++ (if test x then view x ∷ [] else [])) so_far ∙ append_assoc out (map view (filter test (take i xs))) (if test x then view x ∷ [] else [])
        ∙ ap (λ ys. out ++ ys) (ap (λ ys. map view (filter test (take i xs)) ++ ys) (map_kept (test x) x)
        ∙ sym (map-append view (filter test (take i xs)) (if test x then x ∷ [] else [])) ∙ sym (ap (map view) (filter_more xs i x at)))
