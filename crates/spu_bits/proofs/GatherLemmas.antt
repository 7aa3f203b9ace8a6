-- The low bits of lanes, gathered into a number.
use Rattle.std.proofs.Common.{◌≡◌, ℕ, ◌<◌, ◌≤◌, ◌^◌, ◌*◌, ◌+◌, ◌%◌, length, List, [], ◌∷◌, bit_and, bit_or, get_or, map, take, ap, ap₂, ◌∙◌, sym, arith}
use Rattle.std.proofs.Math.Nat.{pow-le-pow_right, mod-eq_of_lt}
use Rattle.std.proofs.lemmas.Nat.{and_mask, or_shifted}
use Rattle.std.proofs.lemmas.Grind.{take_at_read, pow_more}
use Rattle.std.proofs.lemmas.Int.Digits.{number_push}
use Rattle.std.proofs.lemmas.List.{map-append}
use Rattle.std.specs.Int.Digits.{number_from_digits}
use Rattle.spu_bits.specs.Rows.{low_bits}

-- one lane more
pub one_bit_more : (bits i b : ℕ) (xs : List ℕ) → i < 16 → i < length xs → b ≡ bit_and (get_or xs i 0) 1 →
    (bits < 2 ^ i) × (bits ≡ low_bits (take i xs)) →
    (bit_or (bits * 2 % 2 ^ 32) b < 2 ^ (i + 1)) × (bit_or (bits * 2 % 2 ^ 32) b ≡ low_bits (take (i + 1) xs))
one_bit_more bits i b xs few inside read before =
    let small = before.0 in
    let bit : b ≡ get_or xs i 0 % 2 = read ∙ and_mask (get_or xs i 0) 1 in
    let room : 2 ^ i ≤ 2 ^ 15 = pow-le-pow_right {n = 2} (omega arith) {i = i} {j = 15} (omega arith) in
    let whole : bits * 2 % 2 ^ 32 ≡ bits * 2 = mod-eq_of_lt (omega arith) in
    let next : bit_or (bits * 2 % 2 ^ 32) b ≡ bits * 2 + get_or xs i 0 % 2 =
    ap₂ bit_or whole bit ∙ or_shifted bits 1 (get_or xs i 0 % 2) (omega arith) in
    let longer : low_bits (take (i + 1) xs) ≡ bits * 2 + get_or xs i 0 % 2 =
    ap (λ ys. number_from_digits 2 (map (λ x. x % 2) ys)) (take_at_read xs i 0 inside).1
    ∙ ap (number_from_digits 2) (map-append (λ x. x % 2) (take i xs) (get_or xs i 0 ∷ []))
    ∙ number_push 2 (map (λ x. x % 2) (take i xs)) (get_or xs i 0 % 2)
    ∙ ap (λ n. n * 2 + get_or xs i 0 % 2) (sym before.1) in
    (omega (arith, next, pow_more 2 i), next ∙ sym longer)
