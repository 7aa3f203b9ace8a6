-- The place of what stands in a list.
use Rattle.std.proofs.Common.{◌≡◌, ◌≢◌, ℕ, zero, suc, ◌+◌, ◌-◌, ◌<◌, ◌≤◌, Bool, true, false, List, [], ◌∷◌, ◌++◌, length, map, arith, refl, ◌∙◌, ap, subst, length-append}
use Rattle.std.specs.Prelude.{Some, Result, Ok, Err, slice_get, filter, option_map}
use Rattle.std.specs.List.{range_with_len}
use Rattle.std.proofs.Math.ListN.{length-map}
use Rattle.mfc_queue.specs.At.{IsAt}

-- the place in two lists, one behind the other
get_here : {X : Type 0} (xs ys : List X) (n : ℕ) (s : X) → slice_get xs n ≡ Some s → slice_get (xs ++ ys) n ≡ Some s
get_here [] ys n s h = absurd (cc)
get_here (x ∷ xs) ys zero s h = h
get_here (x ∷ xs) ys (suc n) s h = get_here xs ys n s h

get_behind : {X : Type 0} (xs ys : List X) (n rest : ℕ) → n ≡ length xs + rest → slice_get (xs ++ ys) n ≡ slice_get ys rest
get_behind [] ys n rest h = let e : n ≡ rest = omega arith in ap (slice_get ys) e
get_behind (x ∷ xs) ys zero rest h = absurd (omega arith)
get_behind (x ∷ xs) ys (suc n) rest h = get_behind xs ys n rest (omega arith)

pub at-here : {X : Type 0} (r : Result X ℕ) (n : ℕ) (xs ys : List X) (s : X) → r ≡ Ok s → IsAt r n xs → IsAt (Ok s) n (xs ++ ys)
at-here (Err rest) n xs ys s e h = absurd (cc)
at-here (Ok t) n xs ys s e h = let same : t ≡ s = cc in get_here xs ys n s (subst (λ u. slice_get xs n ≡ Some u) same h)

pub at-behind : {X : Type 0} (r : Result X ℕ) (n rest : ℕ) (xs ys : List X) → n ≡ length xs + rest → IsAt r rest ys → IsAt r n (xs ++ ys)
at-behind (Ok s) n rest xs ys e h = get_behind xs ys n rest e ∙ h
at-behind (Err k) n rest xs ys e h = let a = length-append xs ys in omega arith

pub behind-of : {X : Type 0} (r : Result X ℕ) (n rest : ℕ) (xs : List X) → r ≡ Err rest → IsAt r n xs → n ≡ length xs + rest
behind-of (Ok s) n rest xs e h = absurd (cc)
behind-of (Err k) n rest xs e h = let same : k ≡ rest = cc in subst (λ j. n ≡ length xs + j) same h

pub ok-of : {X : Type 0} (r : Result X ℕ) (n : ℕ) (xs : List X) (s : X) → r ≡ Ok s → IsAt r n xs → slice_get xs n ≡ Some s
ok-of (Err k) n xs s e h = absurd (cc)
ok-of (Ok t) n xs s e h = let same : t ≡ s = cc in subst (λ u. slice_get xs n ≡ Some u) same h

-- a place behind the first is a place in what comes after it
pub at-next : {X : Type 0} (r : Result X ℕ) (n : ℕ) (x : X) (xs : List X) → n ≢ 0 → IsAt r (n - 1) xs → IsAt r n (x ∷ xs)
at-next r n x xs some h = at-behind r n (n - 1) (x ∷ []) xs (let e : n ≡ 1 + (n - 1) = omega arith in e) h

-- the place of what a function gives
pub got-map : {X Y : Type 0} (f : X → Y) (xs : List X) (n : ℕ) (x : X) → slice_get xs n ≡ Some x → slice_get (map f xs) n ≡ Some (f x)
got-map f [] n x h = absurd (cc)
got-map f (y ∷ xs) zero x h = ap (option_map f) h
got-map f (y ∷ xs) (suc n) x h = got-map f xs n x h

pub behind-map : {X Y : Type 0} (f : X → Y) (xs : List X) (n rest : ℕ) → n ≡ length xs + rest → n ≡ length (map f xs) + rest
behind-map f xs n rest h = let l = length-map xs f in omega arith

-- the numbers from k to below n that pass a test
abbrev pub passing : (ℕ → Bool) → ℕ → ℕ → List ℕ
passing t k n = filter t (range_with_len k (n - k))

pub pass-skip : (t : ℕ → Bool) (k n : ℕ) → k < n → t k ≡ false → passing t k n ≡ passing t (k + 1) n
pass-skip t k n l h = let e : n - k ≡ suc (n - (k + 1)) = omega arith in rw e (rw h refl)

pub pass-here : (t : ℕ → Bool) (k n : ℕ) → k < n → t k ≡ true → passing t k n ≡ k ∷ passing t (k + 1) n
pass-here t k n l h = let e : n - k ≡ suc (n - (k + 1)) = omega arith in rw e (rw h refl)

pub pass-end : (t : ℕ → Bool) (k n : ℕ) → n ≤ k → passing t k n ≡ []
pass-end t k n l = let e : n - k ≡ 0 = omega arith in rw e refl

pub pass-all : (t : ℕ → Bool) (n : ℕ) → passing t 0 n ≡ filter t (range_with_len 0 n)
pass-all t n = let e : n - 0 ≡ n = omega arith in ap (λ k. filter t (range_with_len 0 k)) e

-- the same numbers pass a test that answers the same
pub pass-agree : (t u : ℕ → Bool) (a n : ℕ) → ((k : ℕ) → k < a + n → t k ≡ u k) → filter t (range_with_len a n) ≡ filter u (range_with_len a n)
pass-agree t u a zero h = refl
pass-agree t u a (suc n) h = rw (h a (omega arith), pass-agree t u (a + 1) n (λ k l. h k (omega arith))) refl
