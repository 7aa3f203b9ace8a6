-- The bits of a word of marks.
use Rattle.std.proofs.Common.{◌≡◌, ℕ, zero, suc, ◌-◌, ◌^◌, ◌<◌, ◌≤◌, ap, refl, sym, ◌∙◌, arith, inl, inr}
use Rattle.std.specs.Prelude.{◌⊎◌, Bool, true, false, not, ◌||◌, ◌==◌, Some, None, min, max, bit_and, bit_or, nat_le, nat_lt}
use Rattle.std.specs.Int.{bit_at, trailing_zeros, w64}
use Rattle.std.proofs.lemmas.Bool.{cases_lt, eq-eqb, ne_eqb, le-leb, lt-leb, lt-ltb, le-ltb, and_left, and_right, and_from}
use Rattle.std.proofs.lemmas.Nat.{and_le_l}
use Rattle.std.proofs.lemmas.Nat.Bits.{bit_at_and, bit_at_or, bit_at-zero, bit_at-lt, bit_at_not, bit_at_mask_inside, bit_at_mask_below, bit_at_mask_above, bit_at-trailing_zeros}
use Rattle.unwritten_reads.specs.declared.range.ByteRange.{ByteRange}
use Rattle.unwritten_reads.specs.Marks.{IsFirst, has_bit, looked}
use Rattle.unwritten_reads.specs.Ranges.{in_range}

-- ---- one bit

min-one : (a b : ℕ) → a < 2 → b ≡ 1 → min a b ≡ a
min-one a b low one = omega (arith, low, one)

min-zero : (a b : ℕ) → b ≡ 0 → min a b ≡ 0
min-zero a b none = omega (arith, none)

max-one : (a b : ℕ) → a < 2 → b ≡ 1 → max a b ≡ 1
max-one a b low one = omega (arith, low, one)

max-zero : (a b : ℕ) → b ≡ 0 → max a b ≡ a
max-zero a b none = omega (arith, none)

test-one : (a : ℕ) → a ≡ 1 → (a == 1) ≡ true
test-one a one = eq-eqb a 1 one

test-zero : (a : ℕ) → a ≡ 0 → (a == 1) ≡ false
test-zero a none = ne_eqb a 1 (λ e. omega (arith, e, none))

-- ---- the bits that are looked at

looked-small : (word : ℕ) (is : Bool) → word < 2 ^ 64 → looked is word < 2 ^ 64
looked-small word true small = small
looked-small word false small = (let w : 2 ^ 64 - 1 - word < 2 ^ 64 = omega arith in w)

looked-one : (word : ℕ) (is : Bool) (i : ℕ) → word < 2 ^ 64 → i < 64 → bit_at (looked is word) i ≡ 1 → has_bit word i ≡ is
looked-one word true i small low one = test-one (bit_at word i) one
looked-one word false i small low one = test-zero (bit_at word i) (zero-of (bit_at word i) (sym (bit_at_not w64 word i small low) ∙ one))
  where
    zero-of : (a : ℕ) → 1 - a ≡ 1 → a ≡ 0
    zero-of a e = omega (arith, e)

looked-zero : (word : ℕ) (is : Bool) (i : ℕ) → word < 2 ^ 64 → i < 64 → bit_at (looked is word) i ≡ 0 → has_bit word i ≡ not is
looked-zero word true i small low none = test-zero (bit_at word i) none
looked-zero word false i small low none = test-one (bit_at word i) (one-of (bit_at word i) (bit_at-lt word i) (sym (bit_at_not w64 word i small low) ∙ none))
  where
    one-of : (a : ℕ) → a < 2 → 1 - a ≡ 0 → a ≡ 1
    one-of a low e = omega (arith, low, e)

-- ---- the first bit of a range

module _ (word : ℕ) (is : Bool) (r : ByteRange) (small : word < 2 ^ 64) (fits : r.end ≤ 64) where
  abbrev mask : ℕ
  mask = 2 ^ r.end - 2 ^ r.from

  abbrev found : ℕ
  found = bit_and (looked is word) mask

  bit-in : (i : ℕ) → r.from ≤ i → i < r.end → bit_at found i ≡ bit_at (looked is word) i
  bit-in i low high =
      bit_at_and (looked is word) mask i
      ∙ min-one (bit_at (looked is word) i) (bit_at mask i) (bit_at-lt (looked is word) i) (bit_at_mask_inside r.from r.end i low high)

  bit-out : (i : ℕ) → bit_at mask i ≡ 0 → bit_at found i ≡ 0
  bit-out i none = bit_at_and (looked is word) mask i ∙ min-zero (bit_at (looked is word) i) (bit_at mask i) none

  one-inside : (i : ℕ) → bit_at found i ≡ 1 → (r.from ≤ i) × (i < r.end)
  one-inside i one = (from (cases_lt i r.from), to (cases_lt i r.end))
    where
      from : (i < r.from) ⊎ (r.from ≤ i) → r.from ≤ i
      from (inl less) = absurd (let none = bit-out i (bit_at_mask_below r.from r.end i less) in omega (arith, one, none))
      from (inr low) = low

      to : (i < r.end) ⊎ (r.end ≤ i) → i < r.end
      to (inl high) = high
      to (inr more) = absurd (let none = bit-out i (bit_at_mask_above r.from r.end i more) in omega (arith, one, none))

  zero-inside : (i : ℕ) → bit_at found i ≡ 0 → r.from ≤ i → i < r.end → has_bit word i ≡ not is
  zero-inside i none low high = looked-zero word is i small (omega (arith, high, fits)) (sym (bit-in i low high) ∙ none)

  pub first-none : found ≡ 0 → IsFirst (has_bit word) is r None
  first-none none = λ i low high. zero-inside i (ap (λ n. bit_at n i) none ∙ bit_at-zero i) low high

  pub first-some : (found ≡ 0 → ⊥) → IsFirst (has_bit word) is r (Some (trailing_zeros w64 found))
  first-some some =
      let pos : 0 < found = positive found some in
      let below : found < 2 ^ 64 = (let le = and_le_l (looked is word) mask in let fit = looked-small word is small in omega (arith, le, fit)) in
      let first = bit_at-trailing_zeros w64 found pos below in
      let inside = one-inside (trailing_zeros w64 found) first.1 in (
        inside.0,
        inside.1,
        looked-one word is (trailing_zeros w64 found) small first.0 (sym (bit-in (trailing_zeros w64 found) inside.0 inside.1) ∙ first.1),
        λ i low less. zero-inside i (first.2 i less) low (let high = inside.1 in omega (arith, less, high)),
      )
    where
      positive : (n : ℕ) → (n ≡ 0 → ⊥) → 0 < n
      positive zero some = absurd (some refl)
      positive (suc n) some = omega arith

-- ---- more bits

pub in-here : (r : ByteRange) (b : ℕ) → r.from ≤ b → b < r.end → in_range r b ≡ true
in-here r b low high = and_from (nat_le r.from b) (nat_lt b r.end) (le-leb r.from b low) (lt-ltb b r.end high)

pub in-below : (r : ByteRange) (b : ℕ) → b < r.from → in_range r b ≡ false
in-below r b less = and_left (nat_le r.from b) (nat_lt b r.end) (lt-leb r.from b less)

pub in-above : (r : ByteRange) (b : ℕ) → r.end ≤ b → in_range r b ≡ false
in-above r b more = and_right (nat_le r.from b) (nat_lt b r.end) (le-ltb b r.end more)

pub or-true : (a b : Bool) → b ≡ true → (a || b) ≡ true
or-true true b h = refl
or-true false b h = h

pub or-false : (a b : Bool) → b ≡ false → (a || b) ≡ a
or-false true b h = refl
or-false false b h = h

module _ (word : ℕ) (r : ByteRange) (i : ℕ) where
  abbrev bits : ℕ
  bits = 2 ^ r.end - 2 ^ r.from

  left : bit_at bits i ≡ 0 → in_range r i ≡ false → has_bit (bit_or word bits) i ≡ (has_bit word i || in_range r i)
  left none out =
      ap (λ n. n == 1) (bit_at_or word bits i ∙ max-zero (bit_at word i) (bit_at bits i) none) ∙ sym (or-false (has_bit word i) (in_range r i) out)

  marked-by : (i < r.from) ⊎ (r.from ≤ i) → (i < r.end) ⊎ (r.end ≤ i) → has_bit (bit_or word bits) i ≡ (has_bit word i || in_range r i)
  marked-by (inl less) other = left (bit_at_mask_below r.from r.end i less) (in-below r i less)
  marked-by (inr low) (inr more) = left (bit_at_mask_above r.from r.end i more) (in-above r i more)
  marked-by (inr low) (inl high) =
      test-one (bit_at (bit_or word bits) i) (bit_at_or word bits i ∙ max-one (bit_at word i) (bit_at bits i) (bit_at-lt word i) (bit_at_mask_inside r.from r.end i low high))
      ∙ sym (or-true (has_bit word i) (in_range r i) (in-here r i low high))

  pub marked-bits : has_bit (bit_or word (2 ^ r.end - 2 ^ r.from)) i ≡ (has_bit word i || in_range r i)
  marked-bits = marked-by (cases_lt i r.from) (cases_lt i r.end)
