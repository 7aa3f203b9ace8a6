-- What lists of numbers have.
use Rattle.std.proofs.Common.{◌≡◌, ℕ, zero, suc, ◌+◌, ◌<◌, List, [], ◌∷◌, ◌++◌, length, take, get_or, set, refl, sym, ap, ◌∙◌, subst, arith, ◌⊎◌, inl, inr, Option, Some, None}
use Rattle.std.specs.Prelude.{◌↔◌, slice_get}
use Rattle.std.specs.List.{insert, remove}
use Rattle.std.proofs.lemmas.Bool.{cases_eq}
use Rattle.std.proofs.lemmas.List.{take_more}
use Rattle.std.proofs.lemmas.Option.{none-some, same_Some, slice_get-get_or}
use Rattle.run_permute.specs.SettledLists.{IsIn}
use Rattle.run_permute.specs.Lists.{in_front, list_at, steps_in}
use Rattle.run_permute.specs.declared.few.Few.{Few}

pub in-at : (xs : List ℕ) (k j : ℕ) → slice_get xs k ≡ Some j → IsIn j xs
in-at [] k j h = absurd (none-some j h)
in-at (x ∷ xs) zero j h = inl (same_Some x j h)
in-at (x ∷ xs) (suc k) j h = inr (in-at xs k j h)

pub in-get : (xs : List ℕ) (k : ℕ) → k < length xs → IsIn (get_or xs k 0) xs
in-get xs k low = in-at xs k (get_or xs k 0) (slice_get-get_or xs k 0 low)

pub at-in : (xs : List ℕ) (j : ℕ) → IsIn j xs → (k : ℕ) × (k < length xs) × (slice_get xs k ≡ Some j)
at-in [] j h = absurd h
at-in (x ∷ xs) j (inl e) = (0, omega arith, ap Some e)
at-in (x ∷ xs) j (inr h) = let r = at-in xs j h in (suc r.0, (let l : r.0 < length xs = r.1 in omega arith), r.2)

pub entry : (xs : List ℕ) (k : ℕ) → k < length xs → (j : ℕ) × (slice_get xs k ≡ Some j)
entry xs k low = (get_or xs k 0, slice_get-get_or xs k 0 low)

-- ---- lists in a row

pub in-left : (xs ys : List ℕ) (j : ℕ) → IsIn j xs → IsIn j (xs ++ ys)
in-left [] ys j h = absurd h
in-left (x ∷ xs) ys j (inl e) = inl e
in-left (x ∷ xs) ys j (inr h) = inr (in-left xs ys j h)

pub in-right : (xs ys : List ℕ) (j : ℕ) → IsIn j ys → IsIn j (xs ++ ys)
in-right [] ys j h = h
in-right (x ∷ xs) ys j h = inr (in-right xs ys j h)

pub in-parts : (xs ys : List ℕ) (j : ℕ) → IsIn j (xs ++ ys) → IsIn j xs ⊎ IsIn j ys
in-parts [] ys j h = inr h
in-parts (x ∷ xs) ys j (inl e) = inl (inl e)
in-parts (x ∷ xs) ys j (inr h) = on (in-parts xs ys j h)
  where
    on : IsIn j xs ⊎ IsIn j ys → IsIn j (x ∷ xs) ⊎ IsIn j ys
    on (inl k) = inl (inr k)
    on (inr k) = inr k

pub in-push : (xs : List ℕ) (y j : ℕ) → IsIn j (xs ++ y ∷ []) ↔ (IsIn j xs ⊎ (j ≡ y))
in-push xs y j = (λ h. out (in-parts xs (y ∷ []) j h), into)
  where
    out : IsIn j xs ⊎ IsIn j (y ∷ []) → IsIn j xs ⊎ (j ≡ y)
    out (inl h) = inl h
    out (inr (inl e)) = inr (sym e)
    out (inr (inr h)) = absurd h

    into : IsIn j xs ⊎ (j ≡ y) → IsIn j (xs ++ y ∷ [])
    into (inl h) = in-left xs (y ∷ []) j h
    into (inr e) = in-right xs (y ∷ []) j (inl (sym e))

-- one more of the first
pub in-more : (xs : List ℕ) (i j : ℕ) → i < length xs → IsIn j (take (i + 1) xs) ↔ (IsIn j (take i xs) ⊎ (j ≡ get_or xs i 0))
in-more xs i j low = subst (λ ys. IsIn j ys ↔ (IsIn j (take i xs) ⊎ (j ≡ get_or xs i 0))) (sym (take_more xs i 0 low)) (in-push (take i xs) (get_or xs i 0) j)

-- with one more in front of both
in-front : (x : ℕ) (xs ys : List ℕ) (y j : ℕ) → IsIn j ys ↔ (IsIn j xs ⊎ (j ≡ y)) → IsIn j (x ∷ ys) ↔ (IsIn j (x ∷ xs) ⊎ (j ≡ y))
in-front x xs ys y j by = (out, into)
  where
    more : IsIn j xs ⊎ (j ≡ y) → IsIn j (x ∷ xs) ⊎ (j ≡ y)
    more (inl h) = inl (inr h)
    more (inr e) = inr e

    out : IsIn j (x ∷ ys) → IsIn j (x ∷ xs) ⊎ (j ≡ y)
    out (inl e) = inl (inl e)
    out (inr h) = more (by.0 h)

    into : IsIn j (x ∷ xs) ⊎ (j ≡ y) → IsIn j (x ∷ ys)
    into (inl (inl e)) = inl e
    into (inl (inr h)) = inr (by.1 (inl h))
    into (inr e) = inr (by.1 (inr e))

in-head : (xs : List ℕ) (y j : ℕ) → IsIn j (y ∷ xs) ↔ (IsIn j xs ⊎ (j ≡ y))
in-head xs y j = (out, into)
  where
    out : IsIn j (y ∷ xs) → IsIn j xs ⊎ (j ≡ y)
    out (inl e) = inr (sym e)
    out (inr h) = inl h

    into : IsIn j xs ⊎ (j ≡ y) → IsIn j (y ∷ xs)
    into (inl h) = inr h
    into (inr e) = inl (sym e)

pub in-insert : (xs : List ℕ) (i y j : ℕ) → IsIn j (insert xs i y) ↔ (IsIn j xs ⊎ (j ≡ y))
in-insert xs zero y j = in-head xs y j
in-insert [] (suc i) y j = in-head [] y j
in-insert (x ∷ xs) (suc i) y j = in-front x xs (insert xs i y) y j (in-insert xs i y j)

-- what is left without the entry at i
pub in-remove : (xs : List ℕ) (i j : ℕ) → IsIn j (remove xs i) → IsIn j xs
in-remove [] zero j h = absurd h
in-remove [] (suc i) j h = absurd h
in-remove (x ∷ xs) zero j h = inr h
in-remove (x ∷ xs) (suc i) j (inl e) = inl e
in-remove (x ∷ xs) (suc i) j (inr h) = inr (in-remove xs i j h)

pub in-kept : (xs : List ℕ) (i j x : ℕ) → slice_get xs i ≡ Some x → IsIn j xs → IsIn j (remove xs i) ⊎ (j ≡ x)
in-kept [] i j x at h = absurd h
in-kept (y ∷ ys) zero j x at (inl e) = inr (sym e ∙ same_Some y x at)
in-kept (y ∷ ys) zero j x at (inr h) = inl h
in-kept (y ∷ ys) (suc i) j x at (inl e) = inl (inl e)
in-kept (y ∷ ys) (suc i) j x at (inr h) = on (in-kept ys i j x at h)
  where
    on : IsIn j (remove ys i) ⊎ (j ≡ x) → IsIn j (y ∷ remove ys i) ⊎ (j ≡ x)
    on (inl k) = inl (inr k)
    on (inr e) = inr e

pub is-in : (xs : List ℕ) (j : ℕ) → IsIn j xs ⊎ (IsIn j xs → ⊥)
is-in [] j = inr (λ h. h)
is-in (x ∷ xs) j = on (cases_eq x j) (is-in xs j)
  where
    on : (x ≡ j) ⊎ (x ≡ j → ⊥) → IsIn j xs ⊎ (IsIn j xs → ⊥) → IsIn j (x ∷ xs) ⊎ (IsIn j (x ∷ xs) → ⊥)
    on (inl e) k = inl (inl e)
    on (inr n) (inl h) = inl (inr h)
    on (inr n) (inr m) = inr neither
      where
        neither : IsIn j (x ∷ xs) → ⊥
        neither (inl e) = n e
        neither (inr h) = m h

-- ---- the list at a place

pub list-read : (vs : List Few) (i : ℕ) (v : Few) → i < length vs → v ≡ get_or vs i v → list_at vs i ≡ steps_in v
list-read [] i v low e = absurd (omega arith)
list-read (w ∷ vs) zero v low e = ap steps_in (sym e)
list-read (w ∷ vs) (suc i) v low e = list-read vs i v (omega arith) e

pub list-get : (vs : List Few) (i : ℕ) (d : Few) → i < length vs → list_at vs i ≡ steps_in (get_or vs i d)
list-get [] i d low = absurd (omega arith)
list-get (w ∷ vs) zero d low = refl
list-get (w ∷ vs) (suc i) d low = list-get vs i d (omega arith)

pub list-set : (vs : List Few) (i : ℕ) (v : Few) → i < length vs → list_at (set vs i v) i ≡ steps_in v
list-set [] i v low = absurd (omega arith)
list-set (w ∷ vs) zero v low = refl
list-set (w ∷ vs) (suc i) v low = list-set vs i v (omega arith)

pub list-other : (vs : List Few) (i a : ℕ) (v : Few) → (a ≡ i → ⊥) → list_at (set vs i v) a ≡ list_at vs a
list-other [] i a v other = refl
list-other (w ∷ vs) zero zero v other = absurd (other refl)
list-other (w ∷ vs) zero (suc a) v other = refl
list-other (w ∷ vs) (suc i) zero v other = refl
list-other (w ∷ vs) (suc i) (suc a) v other = list-other vs i a v (λ e. other (ap suc e))

pub list-push : (vs : List Few) (v : Few) → list_at (vs ++ v ∷ []) (length vs) ≡ steps_in v
list-push [] v = refl
list-push (w ∷ vs) v = list-push vs v

pub list-front : (vs : List Few) (v : Few) (a : ℕ) → a < length vs → list_at (vs ++ v ∷ []) a ≡ list_at vs a
list-front [] v a low = absurd (omega arith)
list-front (w ∷ vs) v zero low = refl
list-front (w ∷ vs) v (suc a) low = list-front vs v a (omega arith)

-- behind the last there is none
pub list-past : (vs : List Few) (a j : ℕ) → IsIn j (list_at vs a) → a < length vs
list-past [] a j h = absurd h
list-past (w ∷ vs) zero j h = omega arith
list-past (w ∷ vs) (suc a) j h = let l : a < length vs = list-past vs a j h in omega arith

pub empty : (xs : List ℕ) → length xs ≡ 0 → [] ≡ xs
empty [] none = refl
empty (x ∷ xs) none = absurd (omega arith)

-- ---- a number in front of others

pub front-behind : (first : Option ℕ) (xs : List ℕ) (i : ℕ) → IsIn i xs → IsIn i (in_front first xs)
front-behind None xs i h = h
front-behind (Some y) xs i h = inr h

pub front-first : (first : Option ℕ) (y : ℕ) (xs : List ℕ) → first ≡ Some y → IsIn y (in_front first xs)
front-first first y xs is = subst (λ f. IsIn y (in_front f xs)) (sym is) (inl refl)

pub front-new : (first : Option ℕ) (xs : List ℕ) (y j : ℕ) → first ≡ None → IsIn j (y ∷ xs) ↔ (IsIn j (in_front first xs) ⊎ (j ≡ y))
front-new first xs y j none = subst (λ f. IsIn j (y ∷ xs) ↔ (IsIn j (in_front f xs) ⊎ (j ≡ y))) (sym none) (in-head xs y j)

pub front-push : (first : Option ℕ) (xs : List ℕ) (y j : ℕ) → IsIn j (in_front first (xs ++ y ∷ [])) ↔ (IsIn j (in_front first xs) ⊎ (j ≡ y))
front-push None xs y j = in-push xs y j
front-push (Some z) xs y j = in-push (z ∷ xs) y j

-- what holds of the first and of all others holds of each
pub front-each : (P : ℕ → Type 0) (first : Option ℕ) (xs : List ℕ) → ((y : ℕ) → first ≡ Some y → P y) → ((i : ℕ) → IsIn i xs → P i) → (i : ℕ) → IsIn i (in_front first xs) → P i
front-each P None xs one rest i h = rest i h
front-each P (Some y) xs one rest i (inl e) = subst P e (one y refl)
front-each P (Some y) xs one rest i (inr h) = rest i h
