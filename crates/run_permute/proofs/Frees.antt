-- Free steps among those that are taken.
use Rattle.std.proofs.Common.{◌≡◌, ℕ, ◌+◌, ◌<◌, ◌≤◌, Bool, true, false, List, length, take, get_or, sym, ap, ◌∙◌, subst, arith, ◌⊎◌, inl, inr, Option, Some, true≢false}
use Rattle.std.specs.Prelude.{◌↔◌, Result, Ok, Err, MatchResult, slice_get}
use Rattle.std.specs.List.{insert}
use Rattle.std.specs.List.Sorted.{IsBinarySearchResult}
use Rattle.std.specs.Ordering.{nat_cmp}
use Rattle.std.proofs.lemmas.Bool.{cases_lt}
use Rattle.std.proofs.lemmas.List.Sorted.{searched}
use Rattle.std.proofs.lemmas.Option.{slice_get-get_or, get_or_from_slice_get}
use Rattle.run_permute.specs.SettledLists.{IsIn}
use Rattle.run_permute.specs.Lists.{IsRising, in_front}
use Rattle.run_permute.specs.Choices.{IsTaken}
use Rattle.run_permute.proofs.Entries.{front-each, in-get, in-more}
use Rattle.run_permute.proofs.Rising.{rising-sorted, rising-insert}

-- ---- flags

pub is-taken : (taken : List Bool) (i : ℕ) (b : Bool) → i < length taken → b ≡ get_or taken i b → b ≡ true → IsTaken taken i
is-taken taken i b low read t = slice_get-get_or taken i b low ∙ ap Some (sym read ∙ t)

pub not-taken : (taken : List Bool) (i : ℕ) (b : Bool) → b ≡ get_or taken i b → b ≡ false → IsTaken taken i → ⊥
not-taken taken i b read f h = true≢false (sym (get_or_from_slice_get taken i true b h) ∙ sym read ∙ f)

pub flagged : (taken : List Bool) (i : ℕ) → i < length taken → get_or taken i false ≡ true → IsTaken taken i
flagged taken i low t = slice_get-get_or taken i false low ∙ ap Some t

pub not-flagged : (taken : List Bool) (i : ℕ) → get_or taken i false ≡ false → IsTaken taken i → ⊥
not-flagged taken i f h = true≢false (sym (get_or_from_slice_get taken i true false h) ∙ f)

-- ---- a place put among others

pub put-rising : (xs : List ℕ) (x : ℕ) (r : Result ℕ ℕ) (at : ℕ) → IsRising xs → IsBinarySearchResult (λ y. nat_cmp y x) xs r → r ≡ Err at → IsRising (insert xs at x)
put-rising xs x r at up position is = by (subst (λ r. MatchResult r (λ i. (i < length xs) × (get_or xs i 0 ≡ x)) (λ i. (i ≤ length xs) × ((k : ℕ) → k < i → get_or xs k 0 < x) × ((k : ℕ) → i ≤ k → k < length xs → x < get_or xs k 0))) is (searched xs x r position (λ i j low high. rising-sorted xs i j up low high)))
  where
    by : (at ≤ length xs) × ((k : ℕ) → k < at → get_or xs k 0 < x) × ((k : ℕ) → at ≤ k → k < length xs → x < get_or xs k 0) → IsRising (insert xs at x)
    by h = rising-insert xs at x up (λ k low within. h.1 k low) h.2

pub found-in : (xs : List ℕ) (x : ℕ) (r : Result ℕ ℕ) (at : ℕ) → IsRising xs → IsBinarySearchResult (λ y. nat_cmp y x) xs r → r ≡ Ok at → IsIn x xs
found-in xs x r at up position is = by (subst (λ r. MatchResult r (λ i. (i < length xs) × (get_or xs i 0 ≡ x)) (λ i. (i ≤ length xs) × ((k : ℕ) → k < i → get_or xs k 0 < x) × ((k : ℕ) → i ≤ k → k < length xs → x < get_or xs k 0))) is (searched xs x r position (λ i j low high. rising-sorted xs i j up low high)))
  where
    by : (at < length xs) × (get_or xs at 0 ≡ x) → IsIn x xs
    by h = subst (λ y. IsIn y xs) h.1 (in-get xs at h.0)

pub put-found : (xs : List ℕ) (x : ℕ) → IsIn x xs → (k : ℕ) → IsIn k xs ↔ (IsIn k xs ⊎ (k ≡ x))
put-found xs x h k = ((λ i. inl i), out)
  where
    out : IsIn k xs ⊎ (k ≡ x) → IsIn k xs
    out (inl i) = i
    out (inr e) = subst (λ y. IsIn y xs) (sym e) h

-- ---- steps that are looked at

-- one more of the last steps is taken
pub flags-down : (taken : List Bool) (steps : List ℕ) (left : ℕ) → IsTaken taken (get_or steps left 0) → ((k i : ℕ) → left + 1 ≤ k → slice_get steps k ≡ Some i → IsTaken taken i) → (k i : ℕ) → left ≤ k → slice_get steps k ≡ Some i → IsTaken taken i
flags-down taken steps left one after k i low at = on (cases_lt left k)
  where
    on : (left < k) ⊎ (k ≤ left) → IsTaken taken i
    on (inl l) = after k i (omega arith) at
    on (inr l) = let e : left ≡ k = omega arith in subst (IsTaken taken) (ap (λ x. get_or steps x 0) e ∙ get_or_from_slice_get steps k i 0 at) one

-- one more of the first steps is seen
pub seen-more : (First Mid New : ℕ → Type 0) (steps : List ℕ) (i : ℕ) → i < length steps → ((k : ℕ) → First k ⊎ IsIn k (take i steps) → Mid k) → ((k : ℕ) → Mid k ⊎ (k ≡ get_or steps i 0) → New k) → (k : ℕ) → First k ⊎ IsIn k (take (i + 1) steps) → New k
seen-more First Mid New steps i low before one k (inl f) = one k (inl (before k (inl f)))
seen-more First Mid New steps i low before one k (inr h) = on ((in-more steps i k low).0 h)
  where
    on : IsIn k (take i steps) ⊎ (k ≡ get_or steps i 0) → New k
    on (inl b) = one k (inl (before k (inr b)))
    on (inr e) = one k (inr e)

-- the first one, where it stands by itself, and then the others
pub seen-few : (First Mid New : ℕ → Type 0) (first : Option ℕ) (xs : List ℕ) → ((k : ℕ) → First k → Mid k) → ((y : ℕ) → first ≡ Some y → Mid y) → ((k : ℕ) → Mid k ⊎ IsIn k xs → New k) → (k : ℕ) → First k ⊎ IsIn k (in_front first xs) → New k
seen-few First Mid New first xs kept one rest k (inl h) = rest k (inl (kept k h))
seen-few First Mid New first xs kept one rest k (inr h) = front-each New first xs (λ y is. rest y (inl (one y is))) (λ i among. rest i (inr among)) k h

-- the same by the number of the step
pub seen-next : (Mid New : ℕ → Type 0) (n : ℕ) → ((k : ℕ) → k < n → Mid k) → ((k : ℕ) → Mid k ⊎ (k ≡ n) → New k) → (k : ℕ) → k < n + 1 → New k
seen-next Mid New n before one k high = on (cases_lt k n)
  where
    on : (k < n) ⊎ (n ≤ k) → New k
    on (inl l) = one k (inl (before k l))
    on (inr l) = one k (inr (omega arith))
