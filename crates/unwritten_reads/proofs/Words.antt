-- The marks of a range, word by word.
use Rattle.std.proofs.Common.{◌≡◌, ℕ, ◌+◌, ◌-◌, ◌*◌, ◌/◌, ◌%◌, ◌^◌, ◌<◌, ◌≤◌, ap, sym, ◌∙◌, arith, inl, inr, true≢false, List, length}
use Rattle.std.specs.Prelude.{◌⊎◌, Bool, true, false, ◌||◌, ◌==◌, max, bit_or, nat_le, nat_lt, is_none, is_some, Option, Some, None, slice_index, slice_set, replicate}
use Rattle.std.specs.Option.{option_map}
use Rattle.std.proofs.lemmas.Bool.{and_parts, cases_lt, cases_eq, leb-true, ltb-true}
use Rattle.std.proofs.lemmas.List.{get_or-set_same, get_or-set_other, get_or-replicate, get_or_past, length-replicate}
use Rattle.std.proofs.lemmas.Nat.Bits.{bit_at-zero}
use Rattle.unwritten_reads.specs.declared.range.ByteRange.{ByteRange}
use Rattle.unwritten_reads.specs.Marks.{IsFirst, has_bit, is_marked}
use Rattle.unwritten_reads.specs.Ranges.{in_range}
use Rattle.unwritten_reads.proofs.Bits.{in-above, in-below, in-here, marked-bits, or-false}

-- the bits of a range within one word
abbrev pub bits_of : ByteRange → ByteRange
bits_of r = record { from = r.from - 64 * (r.from / 64); end = r.end - 64 * (r.from / 64) }

module _ (marks : List ℕ) (r : ByteRange) (some : r.from < r.end) (word : r.end ≤ 64 * (r.from / 64) + 64) where
  abbrev start : ℕ
  start = 64 * (r.from / 64)

  -- a byte of the range is one of the word
  quotient : (b : ℕ) → r.from ≤ b → b < r.end → b / 64 ≡ r.from / 64
  quotient b low high = omega (arith, low, high, word)

  remainder : (b : ℕ) → r.from ≤ b → b < r.end → b % 64 ≡ b - start
  remainder b low high = omega (arith, low, high, word)

  at : (b : ℕ) → r.from ≤ b → b < r.end → is_marked marks b ≡ has_bit (slice_index marks (r.from / 64)) (b - start)
  at b low high =
      ap (λ k. has_bit (slice_index marks k) (b % 64)) (quotient b low high) ∙ ap (has_bit (slice_index marks (r.from / 64))) (remainder b low high)

  -- and a bit of the word is a byte
  byte : (i : ℕ) → (bits_of r).from ≤ i → i < (bits_of r).end → is_marked marks (start + i) ≡ has_bit (slice_index marks (r.from / 64)) i
  byte i low high =
      at (start + i) (omega (arith, low)) (omega (arith, high)) ∙ ap (has_bit (slice_index marks (r.from / 64))) (let e : start + i - start ≡ i = omega arith in e)

  pub first-in : (is : Bool) (first : Option ℕ) → IsFirst (has_bit (slice_index marks (r.from / 64))) is (bits_of r) first → IsFirst (is_marked marks) is r (option_map (λ i. start + i) first)
  first-in is None none = λ b low high. at b low high ∙ none (b - start) (omega (arith, low)) (omega (arith, low, high))
  first-in is (Some i) first =
      let low = first.0 in
      let high = first.1 in (
        omega (arith, low),
        omega (arith, high),
        byte i low high ∙ first.2,
        λ b above less. at b above (omega (arith, less, high)) ∙ first.3 (b - start) (omega (arith, above)) (omega (arith, less, above)),
      )

  abbrev now : ℕ
  now = bit_or (slice_index marks (r.from / 64)) (2 ^ (bits_of r).end - 2 ^ (bits_of r).from)

  pub marked-in : (more : List ℕ) → more ≡ slice_set marks (r.from / 64) (bit_or (slice_index marks (r.from / 64)) (2 ^ (bits_of r).end - 2 ^ (bits_of r).from)) → r.end ≤ 64 * length marks
      → (b : ℕ) → is_marked more b ≡ (is_marked marks b || in_range r b)
  marked-in more is inside b = ap (λ xs. is_marked xs b) is ∙ by (cases_eq (b / 64) (r.from / 64))
    where
      there : r.from / 64 < length marks
      there = omega (arith, some, inside)

      same : (b / 64 ≡ r.from / 64) → in_range (bits_of r) (b % 64) ≡ in_range r b
      same e = on (cases_lt b r.from) (cases_lt b r.end)
        where
          on : (b < r.from) ⊎ (r.from ≤ b) → (b < r.end) ⊎ (r.end ≤ b) → in_range (bits_of r) (b % 64) ≡ in_range r b
          on (inl less) other = in-below (bits_of r) (b % 64) (omega (arith, e, less)) ∙ sym (in-below r b less)
          on (inr low) (inr more) = in-above (bits_of r) (b % 64) (omega (arith, e, more)) ∙ sym (in-above r b more)
          on (inr low) (inl high) = in-here (bits_of r) (b % 64) (omega (arith, e, low)) (omega (arith, e, low, high)) ∙ sym (in-here r b low high)

      outside : (b / 64 ≡ r.from / 64 → ⊥) → in_range r b ≡ false
      outside ne = on (cases_lt b r.from) (cases_lt b r.end)
        where
          on : (b < r.from) ⊎ (r.from ≤ b) → (b < r.end) ⊎ (r.end ≤ b) → in_range r b ≡ false
          on (inl less) other = in-below r b less
          on (inr low) (inr more) = in-above r b more
          on (inr low) (inl high) = absurd (ne (quotient b low high))

      by : (b / 64 ≡ r.from / 64) ⊎ (b / 64 ≡ r.from / 64 → ⊥) → is_marked (slice_set marks (r.from / 64) now) b ≡ (is_marked marks b || in_range r b)
      by (inl e) =
          ap (λ k. has_bit (slice_index (slice_set marks (r.from / 64) now) k) (b % 64)) e
          ∙ ap (λ w. has_bit w (b % 64)) (get_or-set_same marks (r.from / 64) now 0 there)
          ∙ marked-bits (slice_index marks (r.from / 64)) (bits_of r) (b % 64)
          ∙ ap (λ t. has_bit (slice_index marks (r.from / 64)) (b % 64) || t) (same e)
          ∙ ap (λ k. has_bit (slice_index marks k) (b % 64) || in_range r b) (sym e)
      by (inr ne) =
          ap (λ w. has_bit w (b % 64)) (get_or-set_other marks (r.from / 64) (b / 64) now 0 ne) ∙ sym (or-false (is_marked marks b) (in_range r b) (outside ne))

-- ---- the words of a range, one after another

-- the first bytes of a range, up to this one
abbrev pub up_to : ByteRange → ℕ → ByteRange
up_to r end = record { from = r.from; end = end }

abbrev pub between : ℕ → ℕ → ByteRange
between from end = record { from = from; end = end }

pub joined : (r : ByteRange) (middle end b : ℕ) → r.from ≤ middle → middle ≤ end → (in_range (up_to r middle) b || in_range (between middle end) b) ≡ in_range (up_to r end) b
joined r middle end b low high = by (cases_lt b r.from) (cases_lt b middle) (cases_lt b end)
  where
    by : (b < r.from) ⊎ (r.from ≤ b) → (b < middle) ⊎ (middle ≤ b) → (b < end) ⊎ (end ≤ b) → (in_range (up_to r middle) b || in_range (between middle end) b) ≡ in_range (up_to r end) b
    by (inl less) other last =
        ap (λ t. t || in_range (between middle end) b) (in-below (up_to r middle) b less) ∙ in-below (between middle end) b (omega (arith, less, low)) ∙ sym (in-below (up_to r end) b less)
    by (inr from) (inl first) last =
        ap (λ t. t || in_range (between middle end) b) (in-here (up_to r middle) b from first) ∙ sym (in-here (up_to r end) b from (omega (arith, first, high)))
    by (inr from) (inr second) (inl last) =
        ap (λ t. t || in_range (between middle end) b) (in-above (up_to r middle) b second) ∙ in-here (between middle end) b second last ∙ sym (in-here (up_to r end) b from last)
    by (inr from) (inr second) (inr after) =
        ap (λ t. t || in_range (between middle end) b) (in-above (up_to r middle) b second) ∙ in-above (between middle end) b after ∙ sym (in-above (up_to r end) b after)

-- past the end of a range whose bytes all were taken
pub all-joined : (r : ByteRange) (from b : ℕ) → r.end ≤ from → from ≤ max r.from r.end → in_range (up_to r from) b ≡ in_range r b
all-joined r from b past top = by (cases_lt b r.from) (cases_lt b r.end)
  where
    by : (b < r.from) ⊎ (r.from ≤ b) → (b < r.end) ⊎ (r.end ≤ b) → in_range (up_to r from) b ≡ in_range r b
    by (inl less) other = in-below (up_to r from) b less ∙ sym (in-below r b less)
    by (inr low) (inl high) = in-here (up_to r from) b low (omega (arith, high, past)) ∙ sym (in-here r b low high)
    by (inr low) (inr more) = in-above (up_to r from) b (omega (arith, low, more, past, top)) ∙ sym (in-above r b more)

-- ---- no marks

pub none-marked : (words b : ℕ) → is_marked (replicate words 0) b ≡ false
none-marked words b = ap (λ w. has_bit w (b % 64)) (zero-at (cases_lt (b / 64) words)) ∙ ap (λ n. n == 1) (bit_at-zero (b % 64))
  where
    zero-at : (b / 64 < words) ⊎ (words ≤ b / 64) → slice_index (replicate words 0) (b / 64) ≡ 0
    zero-at (inl low) = get_or-replicate words (b / 64) 0 0 low
    zero-at (inr high) = get_or_past (replicate words 0) (b / 64) 0 (let long : length {A = ℕ} (replicate words 0) ≡ words = length-replicate words 0 in omega (arith, long, high))

-- ---- whether all bytes of a range are in the set, or one is

module _ (marks : ℕ → Bool) (r : ByteRange) where
  inside : (b : ℕ) → in_range r b ≡ true → (r.from ≤ b) × (b < r.end)
  inside b is = (let parts = and_parts (nat_le r.from b) (nat_lt b r.end) is in (leb-true r.from b parts.0, ltb-true b r.end parts.1))

  pub all-from : (first : Option ℕ) → IsFirst marks false r first → is_none first ≡ true → (b : ℕ) → in_range r b ≡ true → marks b ≡ true
  all-from None all is b has = (let h = inside b has in all b h.0 h.1)
  all-from (Some first) some is b has = absurd (true≢false (sym is))

  pub any-from : (first : Option ℕ) → IsFirst marks true r first → is_some first ≡ true → (b : ℕ) × ((r.from ≤ b) × (b < r.end) × (marks b ≡ true))
  any-from None all is = absurd (true≢false (sym is))
  any-from (Some first) some is = (first, (some.0, some.1, some.2))

  pub none-from : (first : Option ℕ) → IsFirst marks true r first → is_some first ≡ false → (b : ℕ) → in_range r b ≡ true → marks b ≡ false
  none-from None all is b has = (let h = inside b has in all b h.0 h.1)
  none-from (Some first) some is b has = absurd (true≢false is)
