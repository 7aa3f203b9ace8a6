-- How the numbers of slots change when a page is made, and when one is set.
use Rattle.std.proofs.Common.{get_or, ◌≡◌, ℕ, zero, suc, ◌+◌, ◌-◌, ◌*◌, ◌/◌, ◌%◌, ◌^◌, ◌<◌, ◌≤◌, ap, refl, sym, subst, ◌∙◌, List, ◌++◌, length, ◌⊎◌, inl, inr, arith, length-append}
use Rattle.std.specs.Prelude.{replicate, slice_index, slice_set}
use Rattle.std.proofs.lemmas.Bool.{cases_eq}
use Rattle.std.proofs.lemmas.List.{get_or_default, get_or-append-add, get_or-replicate, get_or-set_other, get_or-set_same, get_or_append_left, get_or_past, length-replicate, length-set}
use Rattle.std.proofs.lemmas.List.FromFn.{fill_by_all, get_or-map-range_with_len, length-map-range_with_len}
use Rattle.race_check.specs.Numbers.{ArePages, number_at, numbers_in}

-- ---- the list

pub length_in : (count : ℕ) (starts kept : List ℕ) → length (numbers_in count starts kept) ≡ count
unfolding numbers_in
length_in count starts kept = length-map-range_with_len (number_at starts kept) 0 count

pub inside_of : (count : ℕ) (starts kept xs : List ℕ) (slot : ℕ) → numbers_in count starts kept ≡ xs → slot < length xs → slot < count
inside_of count starts kept xs slot is low = subst (λ k. slot < k) (sym (ap length is) ∙ length_in count starts kept) low

pub at_slot : (count : ℕ) (starts kept : List ℕ) (slot : ℕ) → slot < count → slice_index (numbers_in count starts kept) slot ≡ number_at starts kept slot
unfolding numbers_in
at_slot count starts kept slot low = get_or-map-range_with_len (number_at starts kept) 0 count slot slot 0 low (omega arith)

list_is : (count : ℕ) (starts kept xs : List ℕ) → length xs ≡ count → ((k : ℕ) → k < count → slice_index xs k ≡ number_at starts kept k) → xs ≡ numbers_in count starts kept
unfolding numbers_in
list_is count starts kept xs long are = fill_by_all (number_at starts kept) xs count 0 long are

-- a slot's number is read
module _ (count : ℕ) (starts kept numbers : List ℕ) (is : numbers_in count starts kept ≡ numbers) (enough : count ≤ 64 * length starts) (are : ArePages starts kept) (slot : ℕ) (inside : slot < length numbers) where
  pub has_page : slot / 64 < length starts
  has_page = let low = inside_of count starts kept numbers slot is inside in omega (arith, low, enough)

  start_is : (start : ℕ) → start ≡ get_or starts (slot / 64) start → start ≡ slice_index starts (slot / 64)
  start_is start got = got ∙ get_or_default starts (slot / 64) start 0 has_page

  pub on_page : (start : ℕ) → start ≡ get_or starts (slot / 64) start → start + slot % 64 < length kept
  on_page start got = let begins = start_is start got in let whole = are.whole (slot / 64) in omega (arith, begins, whole)

  pub reads : (start : ℕ) → start ≡ get_or starts (slot / 64) start → (number : ℕ) → number ≡ get_or kept (start + slot % 64) number → number ≡ slice_index numbers slot
  reads start got number found =
      found ∙ get_or_default kept (start + slot % 64) number 0 (on_page start got)
      ∙ ap (λ place. slice_index kept (place + slot % 64)) (start_is start got)
      ∙ sym (at_slot count starts kept slot (inside_of count starts kept numbers slot is inside))
      ∙ ap (λ xs. slice_index xs slot) is

-- pages that read the same
pub same_in : (count : ℕ) (starts kept more_starts more_kept : List ℕ) → ((slot : ℕ) → number_at more_starts more_kept slot ≡ number_at starts kept slot) → numbers_in count more_starts more_kept ≡ numbers_in count starts kept
same_in count starts kept more_starts more_kept same = sym (list_is count more_starts more_kept (numbers_in count starts kept) (length_in count starts kept) (λ k low. at_slot count starts kept k low ∙ sym (same k)))

-- ---- none is set

zeros : (n k : ℕ) → slice_index (replicate n 0) k ≡ 0
zeros zero k = refl
zeros (suc n) zero = refl
zeros (suc n) (suc k) = zeros n k

pub none_are : (n : ℕ) → ArePages (replicate n 0) (replicate 64 (2 ^ 32 - 1))
none_are n = record {
  whole = λ k. (let first = zeros n k in let long = length-replicate 64 (2 ^ 32 - 1) in omega (arith, first, long));
  blank = λ at low. get_or-replicate 64 at (2 ^ 32 - 1) 0 low;
  apart = λ j k ne own. absurd (let first = zeros n j in omega (arith, first, own));
}

pub none_set : (count n : ℕ) → numbers_in count (replicate n 0) (replicate 64 (2 ^ 32 - 1)) ≡ replicate count (2 ^ 32 - 1)
none_set count n =
    sym (list_is count (replicate n 0) (replicate 64 (2 ^ 32 - 1)) (replicate count (2 ^ 32 - 1)) (length-replicate count (2 ^ 32 - 1)) (λ k low. get_or-replicate count k (2 ^ 32 - 1) 0 low ∙ sym (blank k)))
  where
    blank : (k : ℕ) → number_at (replicate n 0) (replicate 64 (2 ^ 32 - 1)) k ≡ 2 ^ 32 - 1
    blank k =
        let place : slice_index (replicate n 0) (k / 64) + k % 64 ≡ k % 64 = (let first = zeros n (k / 64) in omega (arith, first)) in
        ap (slice_index (replicate 64 (2 ^ 32 - 1))) place ∙ get_or-replicate 64 (k % 64) (2 ^ 32 - 1) 0 (omega arith)

-- ---- 64 slots get a page of their own, at the end

module _ (starts kept : List ℕ) (are : ArePages starts kept) (page : ℕ) (inside : page < length starts) (shared : slice_index starts page ≡ 0) (more : List ℕ) (added : more ≡ kept ++ replicate 64 (2 ^ 32 - 1)) where
  here : slice_index (slice_set starts page (length kept)) page ≡ length kept
  here = get_or-set_same starts page (length kept) 0 inside

  other : (k : ℕ) → (k ≡ page → ⊥) → slice_index (slice_set starts page (length kept)) k ≡ slice_index starts k
  other k ne = get_or-set_other starts page k (length kept) 0 ne

  long : length more ≡ length kept + 64
  long = ap length added ∙ length-append kept (replicate 64 (2 ^ 32 - 1)) ∙ ap (λ n. length kept + n) (length-replicate 64 (2 ^ 32 - 1))

  old : (at : ℕ) → at < length kept → slice_index more at ≡ slice_index kept at
  old at low = ap (λ xs. slice_index xs at) added ∙ get_or_append_left kept (replicate 64 (2 ^ 32 - 1)) 0 at low

  new : (at : ℕ) → at < 64 → slice_index more (length kept + at) ≡ 2 ^ 32 - 1
  new at low = ap (λ xs. slice_index xs (length kept + at)) added ∙ get_or-append-add kept (replicate 64 (2 ^ 32 - 1)) at 0 ∙ get_or-replicate 64 at (2 ^ 32 - 1) 0 low

  pub made_are : ArePages (slice_set starts page (length kept)) more
  made_are = record {
    whole = λ k. whole k (cases_eq k page);
    blank = λ at low. old at (let first = are.whole page in omega (arith, first, shared, low)) ∙ are.blank at low;
    apart = λ j k ne own. apart j k ne own (cases_eq j page) (cases_eq k page);
  }
    where
      last : (k : ℕ) → k ≡ page → slice_index (slice_set starts page (length kept)) k ≡ length kept
      last k e = ap (slice_index (slice_set starts page (length kept))) e ∙ here

      whole : (k : ℕ) → (k ≡ page) ⊎ (k ≡ page → ⊥) → slice_index (slice_set starts page (length kept)) k + 64 ≤ length more
      whole k (inl e) = let start = last k e in omega (arith, start, long)
      whole k (inr ne) = let start = other k ne in let was = are.whole k in omega (arith, start, was, long)

      apart : (j k : ℕ) → (j ≡ k → ⊥) → 0 < slice_index (slice_set starts page (length kept)) j → (j ≡ page) ⊎ (j ≡ page → ⊥) → (k ≡ page) ⊎ (k ≡ page → ⊥)
          → (slice_index (slice_set starts page (length kept)) j + 64 ≤ slice_index (slice_set starts page (length kept)) k)
          ⊎ (slice_index (slice_set starts page (length kept)) k + 64 ≤ slice_index (slice_set starts page (length kept)) j)
      apart j k ne own (inl e) (inl f) = absurd (ne (e ∙ sym f))
      apart j k ne own (inl e) (inr n) = inr (let first = last j e in let second = other k n in let was = are.whole k in omega (arith, first, second, was))
      apart j k ne own (inr n) (inl f) = inl (let first = other j n in let second = last k f in let was = are.whole j in omega (arith, first, second, was))
      apart j k ne own (inr n) (inr m) =
          let first = other j n in
          let second = other k m in
          elim (are.apart j k ne (subst (λ start. 0 < start) first own)) [
            | inl low ↦ inl (omega (arith, first, second, low))
            | inr high ↦ inr (omega (arith, first, second, high))
          ]

  pub made_same : (slot : ℕ) → number_at (slice_set starts page (length kept)) more slot ≡ number_at starts kept slot
  made_same slot = on (cases_eq (slot / 64) page)
    where
      on : (slot / 64 ≡ page) ⊎ (slot / 64 ≡ page → ⊥) → number_at (slice_set starts page (length kept)) more slot ≡ number_at starts kept slot
      on (inl e) =
          let was : slice_index starts (slot / 64) ≡ 0 = ap (slice_index starts) e ∙ shared in
          let place : slice_index starts (slot / 64) + slot % 64 ≡ slot % 64 = omega (arith, was) in
          ap (λ start. slice_index more (start + slot % 64)) (ap (slice_index (slice_set starts page (length kept))) e ∙ here)
          ∙ new (slot % 64) (omega arith) ∙ sym (are.blank (slot % 64) (omega arith)) ∙ sym (ap (slice_index kept) place)
      on (inr ne) =
          ap (λ start. slice_index more (start + slot % 64)) (other (slot / 64) ne)
          ∙ old (slice_index starts (slot / 64) + slot % 64) (let was = are.whole (slot / 64) in omega (arith, was))

-- ---- a number is set, on a page that no other slot shares

module _ (starts kept : List ℕ) (are : ArePages starts kept) (slot number : ℕ) (own : 0 < slice_index starts (slot / 64)) where
  -- the page is behind the first one
  past : 64 ≤ slice_index starts (slot / 64)
  past =
      let none : slice_index starts (length starts + slot / 64 + 1) ≡ 0 = get_or_past starts (length starts + slot / 64 + 1) 0 (omega arith) in
      elim (are.apart (slot / 64) (length starts + slot / 64 + 1) (λ e. absurd (omega (arith, e))) own) [
        | inl low ↦ absurd (omega (arith, none, low))
        | inr high ↦ omega (arith, none, high)
      ]

  pub set_are : ArePages starts (slice_set kept (slice_index starts (slot / 64) + slot % 64) number)
  set_are = record {
    whole = λ k. (let was = are.whole k in let long = length-set kept (slice_index starts (slot / 64) + slot % 64) number in omega (arith, was, long));
    blank = λ at low. get_or-set_other kept (slice_index starts (slot / 64) + slot % 64) at number 0 (λ e. absurd (let high = past in omega (arith, e, low, high))) ∙ are.blank at low;
    apart = are.apart;
  }

  set_here : number_at starts (slice_set kept (slice_index starts (slot / 64) + slot % 64) number) slot ≡ number
  set_here = get_or-set_same kept (slice_index starts (slot / 64) + slot % 64) number 0 (let was = are.whole (slot / 64) in omega (arith, was))

  set_left : (n : ℕ) → (n ≡ slot → ⊥) → number_at starts (slice_set kept (slice_index starts (slot / 64) + slot % 64) number) n ≡ number_at starts kept n
  set_left n ne = get_or-set_other kept (slice_index starts (slot / 64) + slot % 64) (slice_index starts (n / 64) + n % 64) number 0 (λ e. on e (cases_eq (slot / 64) (n / 64)))
    where
      on : slice_index starts (n / 64) + n % 64 ≡ slice_index starts (slot / 64) + slot % 64 → (slot / 64 ≡ n / 64) ⊎ (slot / 64 ≡ n / 64 → ⊥) → ⊥
      on e (inl same) = ne (let start : slice_index starts (slot / 64) ≡ slice_index starts (n / 64) = ap (slice_index starts) same in omega (arith, e, same, start))
      on e (inr differ) = elim (are.apart (slot / 64) (n / 64) differ own) [
        | inl low ↦ absurd (omega (arith, e, low))
        | inr high ↦ absurd (omega (arith, e, high))
      ]

  pub set_in : (count : ℕ) → slot < count → numbers_in count starts (slice_set kept (slice_index starts (slot / 64) + slot % 64) number) ≡ slice_set (numbers_in count starts kept) slot number
  set_in count low =
      sym (list_is count starts (slice_set kept (slice_index starts (slot / 64) + slot % 64) number) (slice_set (numbers_in count starts kept) slot number) (length-set (numbers_in count starts kept) slot number ∙ length_in count starts kept) (λ k inside. by k inside (cases_eq k slot)))
    where
      by : (k : ℕ) → k < count → (k ≡ slot) ⊎ (k ≡ slot → ⊥) → slice_index (slice_set (numbers_in count starts kept) slot number) k ≡ number_at starts (slice_set kept (slice_index starts (slot / 64) + slot % 64) number) k
      by k inside (inl e) =
          ap (slice_index (slice_set (numbers_in count starts kept) slot number)) e ∙ get_or-set_same (numbers_in count starts kept) slot number 0 (subst (λ n. slot < n) (sym (length_in count starts kept)) low)
          ∙ sym (ap (number_at starts (slice_set kept (slice_index starts (slot / 64) + slot % 64) number)) e ∙ set_here)
      by k inside (inr ne) = get_or-set_other (numbers_in count starts kept) slot k number 0 ne ∙ at_slot count starts kept k inside ∙ sym (set_left k ne)
