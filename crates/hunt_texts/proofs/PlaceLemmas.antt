-- Texts one after the other, each by its place.
use Rattle.std.proofs.Common.{◌≡◌, ℕ, zero, suc, ◌+◌, ◌≤◌, List, [], ◌∷◌, ◌++◌, length, drop, sym, ap, ◌∙◌, append_assoc, append-nil, arith}
use Rattle.std.specs.Prelude.{Some, slice_get}
use Rattle.std.proofs.lemmas.List.{nil_from_length, length-drop}
use Rattle.std.proofs.lemmas.Option.{none-some, same_Some}
use Rattle.hunt_texts.specs.Lists.{from_place}

drop_at : {X : Type 0} (xs : List X) (i : ℕ) (x : X) → slice_get xs i ≡ Some x → drop i xs ≡ x ∷ drop (suc i) xs
drop_at [] i x at = absurd (none-some x at)
drop_at (y ∷ ys) zero x at = ap (λ z. z ∷ ys) (same_Some y x at)
drop_at (y ∷ ys) (suc i) x at = drop_at ys i x at

module _ {X : Type 0} (text : ℕ → X → List ℕ) where
  -- one text more
  pub place_more : (xs : List X) (out whole new : List ℕ) (i : ℕ) (x : X) → slice_get xs i ≡ Some x → new ≡ out ++ text i x
      → out ++ from_place text i (drop i xs) ≡ whole → new ++ from_place text (i + 1) (drop (i + 1) xs) ≡ whole
  unfolding from_place
  place_more xs out whole new i x at wrote so_far =
      let next : suc i ≡ i + 1 = omega arith in
      let rest : List ℕ = from_place text (suc i) (drop (suc i) xs) in
      let more : new ++ rest ≡ out ++ (text i x ++ rest) = ap (λ t. t ++ rest) wrote ∙ append_assoc out (text i x) rest in
      let here : out ++ from_place text i (drop i xs) ≡ out ++ (text i x ++ rest) = ap (λ ys. out ++ from_place text i ys) (drop_at xs i x at) in
      rw (← next) (more ∙ sym here ∙ so_far)

  -- all texts
  pub place_past : (xs : List X) (out whole : List ℕ) (i : ℕ) → length xs ≤ i → out ++ from_place text i (drop i xs) ≡ whole → out ≡ whole
  unfolding from_place
  place_past xs out whole i past so_far =
      let none : drop i xs ≡ [] = nil_from_length (drop i xs) (omega (arith, length-drop i xs)) in
      sym (append-nil out) ∙ (rw none at so_far)
