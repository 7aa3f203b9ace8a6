-- The bytes of a span, and their numbers.
use Rattle.std.proofs.Common.{◌≡◌, ℕ, ◌+◌, ◌-◌, ◌*◌, ◌<◌, ◌≤◌, ap, refl, sym, ◌∙◌, arith, inl, inr, true≢false}
use Rattle.std.specs.Prelude.{◌⊎◌, Bool, true, false, ◌&&◌, ◌==◌, nat_le, nat_lt}
use Rattle.std.proofs.lemmas.Bool.{and_from, and_left, and_parts, and_right, cases_eq, cases_lt, eq-eqb, le-leb, leb-true, lt-leb, le-ltb, lt-ltb, ltb-true, ne_eqb}
use Rattle.std.proofs.lemmas.Bool.Decides.{Decides-eqb}
use Rattle.cell_machine.specs.declared.effect.Place.{Place}
use Rattle.cell_machine.specs.declared.effect.Place.TheVariants.{Memory, Local}
use Rattle.cell_machine.specs.declared.effect.Span.{Span}
use Rattle.cell_machine.specs.EffectLaws.{same_place}
use Rattle.unwritten_reads.specs.declared.range.ByteRange.{ByteRange}
use Rattle.unwritten_reads.specs.Ranges.{IsInside, IsWithin, in_range, number, range_at, range_in, range_of}
use Rattle.unwritten_reads.specs.Reads.{is_in}
use Rattle.unwritten_reads.proofs.Bits.{in-above, in-below, in-here}

-- ---- `len` bytes from an address on

abbrev pub has_at : ℕ → ℕ → ℕ → Bool
has_at at len x = nat_le at x && nat_lt x (at + len)

pub has-here : (at len x : ℕ) → at ≤ x → x < at + len → has_at at len x ≡ true
has-here at len x low high = and_from (nat_le at x) (nat_lt x (at + len)) (le-leb at x low) (lt-ltb x (at + len) high)

pub has-below : (at len x : ℕ) → x < at → has_at at len x ≡ false
has-below at len x less = and_left (nat_le at x) (nat_lt x (at + len)) (lt-leb at x less)

pub has-above : (at len x : ℕ) → at + len ≤ x → has_at at len x ≡ false
has-above at len x more = and_right (nat_le at x) (nat_lt x (at + len)) (le-ltb x (at + len) more)

pub has-at-end : (at len x : ℕ) → has_at at len x ≡ true → x < at + len
has-at-end at len x is = ltb-true x (at + len) (and_parts (nat_le at x) (nat_lt x (at + len)) is).1

pub empty-range : (r : ByteRange) (b : ℕ) → r.end ≤ r.from → in_range r b ≡ false
empty-range r b none = by (cases_lt b r.from)
  where
    by : (b < r.from) ⊎ (r.from ≤ b) → in_range r b ≡ false
    by (inl less) = in-below r b less
    by (inr low) = in-above r b (omega (arith, low, none))

-- ---- the place

pub same-local : (place : Place) (p : ℕ) → same_place place (Local p) ≡ true → place ≡ Local p
same-local Memory p h = absurd (true≢false (sym h))
same-local (Local q) p h = ap Local ((Decides-eqb q p).0 h)

pub local-is : (p q : ℕ) → (let v : Place = Local p in v) ≡ (let w : Place = Local q in w) → p ≡ q
local-is p q h = cc

-- what is known of a byte in a span
pub record Has (span : Span) (p x : ℕ) : Type 0 where
  pub place : span.place ≡ Local p
  pub low : span.at ≤ x
  pub high : x < span.at + span.len

pub has : (span : Span) (p x : ℕ) → is_in span p x ≡ true → Has span p x
has span p x is =
    let parts = and_parts (same_place span.place (Local p)) (has_at span.at span.len x) is in
    let ends = and_parts (nat_le span.at x) (nat_lt x (span.at + span.len)) parts.1 in
    record { place = same-local span.place p parts.0; low = leb-true span.at x ends.0; high = ltb-true x (span.at + span.len) ends.1 }

pub has-not : (span : Span) (p x : ℕ) → span.len ≡ 0 → is_in span p x ≡ true → ⊥
has-not span p x none is = (let h = has span p x is in let low = h.low in let high = h.high in omega (arith, low, high, none))

same-itself : (p : ℕ) → same_place (Local p) (Local p) ≡ true
same-itself p = eq-eqb p p refl

pub is-in : (span : Span) (p x : ℕ) → Has span p x → is_in span p x ≡ true
is-in span p x h =
    and_from (same_place span.place (Local p)) (has_at span.at span.len x) (ap (λ (q : Place). same_place q (Local p)) h.place ∙ same-itself p)
    (has-here span.at span.len x h.low h.high)

pub one-place : (span : Span) (p q x y : ℕ) → Has span p x → Has span q y → p ≡ q
one-place span p q x y a b = local-is p q (sym a.place ∙ b.place)

-- ---- numbers

-- it reads the same as by the bytes
module _ (p at len : ℕ) (inside : (y : ℕ) → has_at at len y ≡ true → y < 262144) where
  ends : 0 < len → at + len ≤ 262144
  ends some = (let last : at + len - 1 < 262144 = inside (at + len - 1) (has-here at len (at + len - 1) (omega (arith, some)) (omega (arith, some))) in omega (arith, last))

  same-store : (x : ℕ) → in_range (range_in p at len) (number p x) ≡ has_at at len x
  same-store x = by (cases_lt x at) (cases_lt x (at + len))
    where
      by : (x < at) ⊎ (at ≤ x) → (x < at + len) ⊎ (at + len ≤ x) → in_range (range_in p at len) (number p x) ≡ has_at at len x
      by (inl less) other = in-below (range_in p at len) (number p x) (omega (arith, less)) ∙ sym (has-below at len x less)
      by (inr low) (inr more) = in-above (range_in p at len) (number p x) (omega (arith, more)) ∙ sym (has-above at len x more)
      by (inr low) (inl high) = in-here (range_in p at len) (number p x) (omega (arith, low)) (omega (arith, high)) ∙ sym (has-here at len x low high)

  other-store : (q x : ℕ) → (p ≡ q → ⊥) → x < 262144 → in_range (range_in p at len) (number q x) ≡ false
  other-store q x ne low = by (cases_lt q p) (cases_lt 0 len)
    where
      by : (q < p) ⊎ (p ≤ q) → (0 < len) ⊎ (len ≤ 0) → in_range (range_in p at len) (number q x) ≡ false
      by (inl less) other = in-below (range_in p at len) (number q x) (omega (arith, less, low))
      by (inr more) (inr none) = empty-range (range_in p at len) (number q x) (omega (arith, none))
      by (inr more) (inl some) = in-above (range_in p at len) (number q x) (let end = ends some in let apart : p < q = above (cases_lt p q) in omega (arith, end, apart))
        where
          above : (p < q) ⊎ (q ≤ p) → p < q
          above (inl h) = h
          above (inr h) = absurd (ne (omega (arith, h, more)))

  pub store-is : (q x : ℕ) → x < 262144 → in_range (range_in p at len) (number q x) ≡ ((p == q) && has_at at len x)
  store-is q x low = by (cases_eq p q)
    where
      and-true : (a b : Bool) → a ≡ true → (a && b) ≡ b
      and-true true b h = refl
      and-true false b h = absurd (true≢false (sym h))

      by : (p ≡ q) ⊎ (p ≡ q → ⊥) → in_range (range_in p at len) (number q x) ≡ ((p == q) && has_at at len x)
      by (inl e) = ap (λ k. in_range (range_in p at len) (number k x)) (sym e) ∙ same-store x ∙ sym (and-true (p == q) (has_at at len x) (eq-eqb p q e))
      by (inr ne) = other-store q x ne low ∙ sym (and_left (p == q) (has_at at len x) (ne_eqb p q ne))

place-is : (place : Place) (at len : ℕ) → ((p y : ℕ) → (same_place place (Local p) && has_at at len y) ≡ true → y < 262144) → (q x : ℕ) → x < 262144
    → in_range (range_at place at len) (number q x) ≡ (same_place place (Local q) && has_at at len x)
place-is Memory at len inside q x low = empty-range (range_at Memory at len) (number q x) (omega arith)
place-is (Local p) at len inside q x low =
    store-is p at len (λ y has. inside p y (and_from (same_place (Local p) (Local p)) (has_at at len y) (same-itself p) has)) q x low

pub range-is : (words : ℕ) (span : Span) → IsInside words span → (p x : ℕ) → x < 262144 → in_range (range_of span) (number p x) ≡ is_in span p x
range-is words span inside p x low = place-is span.place span.at span.len (λ q y is. (inside q y is).1) p x low

within-at : (words : ℕ) (place : Place) (at len : ℕ) → ((p y : ℕ) → (same_place place (Local p) && has_at at len y) ≡ true → (4096 * p + 4096 ≤ words) × (y < 262144)) → IsWithin words (range_at place at len)
within-at words Memory at len inside some = absurd (omega (arith, some))
within-at words (Local p) at len inside some =
    let many : 0 < len = omega (arith, some) in
    let last = inside p (at + len - 1) (and_from (same_place (Local p) (Local p)) (has_at at len (at + len - 1)) (same-itself p) (has-here at len (at + len - 1) (omega (arith, many)) (omega (arith, many)))) in
    let there = last.0 in
    let low = last.1 in
    omega (arith, there, low)

pub is-within : (words : ℕ) (span : Span) → IsInside words span → IsWithin words (range_of span)
is-within words span inside = within-at words span.place span.at span.len inside

none-at : (place : Place) (at len : ℕ) → len ≡ 0 → (range_at place at len).end ≤ (range_at place at len).from
none-at Memory at len none = omega arith
none-at (Local p) at len none = omega (arith, none)

pub none-of : (span : Span) (b : ℕ) → span.len ≡ 0 → in_range (range_of span) b ≡ false
none-of span b none = empty-range (range_of span) b (none-at span.place span.at span.len none)

-- ---- the range of a span in a local store

pub range-local : (span : Span) (p : ℕ) → span.place ≡ Local p → range_of span ≡ range_in p span.at span.len
range-local span p is = ap (λ (q : Place). range_at q span.at span.len) is
