-- What holds of some and of each of a list.
use Rattle.std.proofs.Common.{◌≡◌, Bool, true, List, [], ◌∷◌, ◌++◌, ◌⊎◌, inl, inr}
use Rattle.std.specs.List.{list_any}
use Rattle.std.proofs.lemmas.Bool.{or_cases, or_left, or_right}

abbrev pub Among : {X : Type 0} → (X → Type 0) → List X → Type 0
Among P [] = ⊥
Among P (x ∷ xs) = P x ⊎ Among P xs

abbrev pub Every : {X : Type 0} → (X → Type 0) → List X → Type 0
Every P [] = Unit {0}
Every P (x ∷ xs) = P x × Every P xs

pub among_left : {X : Type 0} (P : X → Type 0) (xs ys : List X) → Among P xs → Among P (xs ++ ys)
among_left P [] ys h = absurd h
among_left P (x ∷ xs) ys (inl h) = inl h
among_left P (x ∷ xs) ys (inr h) = inr (among_left P xs ys h)

pub among_right : {X : Type 0} (P : X → Type 0) (xs ys : List X) → Among P ys → Among P (xs ++ ys)
among_right P [] ys h = h
among_right P (x ∷ xs) ys h = inr (among_right P xs ys h)

pub every_both : {X : Type 0} (P : X → Type 0) (xs ys : List X) → Every P xs → Every P ys → Every P (xs ++ ys)
every_both P [] ys h g = g
every_both P (x ∷ xs) ys h g = (h.0, every_both P xs ys h.1 g)

pub among_any : {X : Type 0} (f : X → Bool) (xs : List X) → Among (λ x. f x ≡ true) xs → list_any f xs ≡ true
among_any f [] h = absurd h
among_any f (x ∷ xs) (inl h) = or_left _ _ h
among_any f (x ∷ xs) (inr h) = or_right _ _ (among_any f xs h)

pub any_among : {X : Type 0} (f : X → Bool) (xs : List X) → list_any f xs ≡ true → Among (λ x. f x ≡ true) xs
any_among f [] e = cc
any_among f (x ∷ xs) e = at (or_cases (f x) (list_any f xs) e) (λ g. any_among f xs g)
  where
    at : (f x ≡ true) ⊎ (list_any f xs ≡ true) → (list_any f xs ≡ true → Among (λ y. f y ≡ true) xs) → Among (λ y. f y ≡ true) (x ∷ xs)
    at (inl h) rest = inl h
    at (inr h) rest = inr (rest h)

pub among_map : {X : Type 0} (P Q : X → Type 0) (xs : List X) → ((x : X) → P x → Q x) → Among P xs → Among Q xs
among_map P Q [] f h = absurd h
among_map P Q (x ∷ xs) f (inl h) = inl (f x h)
among_map P Q (x ∷ xs) f (inr h) = inr (among_map P Q xs f h)

-- one of the list, with what holds of it and of each
pub record Found {X : Type 0} (P Q : X → Type 0) : Type 0 where
  pub one : X
  pub first : P one
  pub second : Q one

pub among_every : {X : Type 0} (P Q : X → Type 0) (xs : List X) → Among P xs → Every Q xs → Found P Q
among_every P Q [] h g = absurd h
among_every P Q (x ∷ xs) (inl h) g = record { one = x; first = h; second = g.0 }
among_every P Q (x ∷ xs) (inr h) g = among_every P Q xs h g.1
