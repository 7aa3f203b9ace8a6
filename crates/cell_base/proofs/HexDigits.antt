-- Hexadecimal digits, one after the other.
use Rattle.std.proofs.Common.{◌≡◌, ℕ, suc, ◌+◌, ◌-◌, ◌*◌, ◌^◌, ◌<◌, ◌≤◌, true, false, ltb, leb, List, [], ◌∷◌, length, Option, Some, None, refl, arith, lit<}
use Rattle.std.proofs.Math.Nat.{pow-suc, pow-le-pow_right, one-le-pow}
use Rattle.std.specs.Option.{SomeIff}
use Rattle.std.specs.Char.{digit_value}
use Rattle.std.proofs.lemmas.Bool.{lt-ltb, le-ltb, le-leb}
use Rattle.cell_base.specs.Numbers.{hex_digit, hex_value, hex_number}

pub hex_below : (n d before after : ℕ) → before ≤ 8 → after + 1 ≡ before → n < 16 ^ (8 - before) → d < 16 → n * 16 + d < 16 ^ (8 - after)
hex_below n d before after few one lt dlt =
    let k : 8 - after ≡ suc (8 - before) = omega arith in
    rw (k, pow-suc 16 (8 - before)) (omega arith)

pub hex_fits : (n k : ℕ) → k ≤ 8 → n < 16 ^ k → n < 2 ^ 32
hex_fits n k le lt = let m : 16 ^ k ≤ 16 ^ 8 = pow-le-pow_right (lit< tt) le in omega arith

pub hex_more : (n c d : ℕ) (cs : List ℕ) → hex_digit c ≡ Some d → hex_value (n * 16 + d) cs ≡ hex_value n (c ∷ cs)
unfolding hex_value
hex_more n c d cs is = rw is refl

pub hex_none : (n c : ℕ) (cs : List ℕ) → hex_digit c ≡ None → hex_value n (c ∷ cs) ≡ None
unfolding hex_value
hex_none n c cs is = rw is refl

pub hex_end : (n : ℕ) → hex_value n [] ≡ Some n
unfolding hex_value
hex_end n = refl

pub hex_told : (c : ℕ) (r : Option ℕ) → SomeIff r (digit_value c < 16) (digit_value c) → r ≡ hex_digit c
hex_told c None h = let big : ltb (digit_value c) 16 ≡ false = le-ltb _ _ (not_lt h) in rw big refl
  where
    not_lt : (digit_value c < 16 → ⊥) → 16 ≤ digit_value c
    not_lt h = omega (arith, h)
hex_told c (Some d) h = let small : ltb (digit_value c) 16 ≡ true = lt-ltb _ _ h.0 in rw (small, h.1) refl

pub hex_allowed : (digits : List ℕ) → 0 < length digits → length digits ≤ 8 → hex_number digits ≡ hex_value 0 digits
hex_allowed digits some few =
    let one : ltb 0 (length digits) ≡ true = lt-ltb _ _ some in
    let two : leb (length digits) 8 ≡ true = le-leb _ _ few in
    rw (one, two) refl

pub positive : (k : ℕ) → 0 < 16 ^ k
positive k = one-le-pow k 16 (lit< tt)
