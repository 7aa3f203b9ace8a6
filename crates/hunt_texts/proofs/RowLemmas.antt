-- Lines one after the other.
use Rattle.std.proofs.Common.{◌≡◌, ℕ, zero, suc, ◌+◌, ◌≤◌, List, [], ◌∷◌, ◌++◌, length, take, refl, sym, ap, ◌∙◌, append_assoc, append-nil, arith}
use Rattle.std.specs.Prelude.{Some, slice_get}
use Rattle.std.specs.List.{flat_map}
use Rattle.std.proofs.lemmas.List.Concat.{flat_map-append}
use Rattle.std.proofs.lemmas.Option.{none-some, same_Some}

pub take_push : {X : Type 0} (xs : List X) (i : ℕ) (x : X) → slice_get xs i ≡ Some x → take (i + 1) xs ≡ take i xs ++ x ∷ []
take_push [] i x at = absurd (none-some x at)
take_push (y ∷ ys) zero x at = ap (λ z. z ∷ []) (same_Some y x at)
take_push (y ∷ ys) (suc i) x at = let more : suc i + 1 ≡ suc (i + 1) = omega arith in rw more (ap (λ zs. y ∷ zs) (take_push ys i x at))

-- one line more
pub rows_more : {X : Type 0} (f : X → List ℕ) (out made new : List ℕ) (xs : List X) (i : ℕ) (x : X) → slice_get xs i ≡ Some x → made ≡ out ++ flat_map f (take i xs) → new ≡ made ++ f x
    → new ≡ out ++ flat_map f (take (i + 1) xs)
rows_more f out made new xs i x at so_far wrote =
    let one : flat_map f (take (i + 1) xs) ≡ flat_map f (take i xs) ++ f x
    = ap (flat_map f) (take_push xs i x at) ∙ flat_map-append f (take i xs) (x ∷ []) ∙ ap (λ t. flat_map f (take i xs) ++ t) (append-nil (f x)) in
    wrote ∙ ap (λ t. t ++ f x) so_far ∙ append_assoc out (flat_map f (take i xs)) (f x) ∙ ap (λ t. out ++ t) (sym one)

-- all lines
pub take_past : {X : Type 0} (xs : List X) (i : ℕ) → length xs ≤ i → take i xs ≡ xs
take_past [] zero past = refl
take_past [] (suc i) past = refl
take_past (x ∷ xs) zero past = absurd (omega (arith, past))
take_past (x ∷ xs) (suc i) past = ap (λ ys. x ∷ ys) (take_past xs i (omega (arith, past)))

step : (o o' a : List ℕ) → o' ≡ o ++ a → (t : List ℕ) → o' ++ t ≡ o ++ (a ++ t)
step o o' a e t = ap (λ x. x ++ t) e ∙ append_assoc o a t

-- seven items
pub seven_items : (o0 o1 o2 o3 o4 o5 o6 o7 f1 f2 f3 f4 f5 f6 f7 : List ℕ) → o1 ≡ o0 ++ f1 → o2 ≡ o1 ++ f2 → o3 ≡ o2 ++ f3 → o4 ≡ o3 ++ f4 → o5 ≡ o4 ++ f5 → o6 ≡ o5 ++ f6 → o7 ≡ o6 ++ f7
    → o7 ≡ o0 ++ (f1 ++ (f2 ++ (f3 ++ (f4 ++ (f5 ++ (f6 ++ (f7 ++ [])))))))
seven_items o0 o1 o2 o3 o4 o5 o6 o7 f1 f2 f3 f4 f5 f6 f7 e1 e2 e3 e4 e5 e6 e7 =
    e7 ∙ ap (λ t. o6 ++ t) (sym (append-nil f7)) ∙ step o5 o6 f6 e6 (f7 ++ []) ∙ step o4 o5 f5 e5 (f6 ++ (f7 ++ [])) ∙ step o3 o4 f4 e4 (f5 ++ (f6 ++ (f7 ++ []))) ∙ step o2 o3 f3 e3 (f4 ++ (f5 ++ (f6 ++ (f7 ++ []))))
    ∙ step o1 o2 f2 e2 (f3 ++ (f4 ++ (f5 ++ (f6 ++ (f7 ++ []))))) ∙ step o0 o1 f1 e1 (f2 ++ (f3 ++ (f4 ++ (f5 ++ (f6 ++ (f7 ++ []))))))

-- two, three or seven texts one after the other
pub two : (o p q a b : List ℕ) → p ≡ o ++ a → q ≡ p ++ b → q ≡ o ++ (a ++ b)
two o p q a b e1 e2 = e2 ∙ step o p a e1 b

pub three : (o p q r a b c : List ℕ) → p ≡ o ++ a → q ≡ p ++ b → r ≡ q ++ c → r ≡ o ++ (a ++ b ++ c)
three o p q r a b c e1 e2 e3 = two o q r (a ++ b) c (two o p q a b e1 e2) e3

pub four : (o p q r s a b c d : List ℕ) → p ≡ o ++ a → q ≡ p ++ b → r ≡ q ++ c → s ≡ r ++ d → s ≡ o ++ (a ++ b ++ c ++ d)
four o p q r s a b c d e1 e2 e3 e4 = two o r s (a ++ b ++ c) d (three o p q r a b c e1 e2 e3) e4

pub seven : (o p q r s t u v a b c d e f g : List ℕ) → p ≡ o ++ a → q ≡ p ++ b → r ≡ q ++ c → s ≡ r ++ d → t ≡ s ++ e → u ≡ t ++ f → v ≡ u ++ g
    → v ≡ o ++ (a ++ b ++ c ++ d ++ e ++ f ++ g)
seven o p q r s t u v a b c d e f g e1 e2 e3 e4 e5 e6 e7 = four o s t u v (a ++ b ++ c ++ d) e f g (four o p q r s a b c d e1 e2 e3 e4) e5 e6 e7

-- three items
pub three_items : (o0 o1 o2 o3 f1 f2 f3 : List ℕ) → o1 ≡ o0 ++ f1 → o2 ≡ o1 ++ f2 → o3 ≡ o2 ++ f3 → o3 ≡ o0 ++ (f1 ++ (f2 ++ (f3 ++ [])))
three_items o0 o1 o2 o3 f1 f2 f3 e1 e2 e3 = e3 ∙ ap (λ t. o2 ++ t) (sym (append-nil f3)) ∙ step o1 o2 f2 e2 (f3 ++ []) ∙ step o0 o1 f1 e1 (f2 ++ (f3 ++ []))
