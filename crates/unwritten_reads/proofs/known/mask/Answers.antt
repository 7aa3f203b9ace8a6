use Rattle.std.proofs.Common.{arith, ◌≡◌, ℕ, ◌^◌, ◌<◌, ◌≤◌}
use Rattle.std.proofs.lemmas.Nat.{one_shl, pow_below}
use Rattle.unwritten_reads.proofs.known.mask.Goals as goal

less-or-equal : (a b x y : ℕ) → a ≡ x → b ≡ y → x < y → a ≤ b
less-or-equal a b x y p q h = omega (arith, p, q, h)

pub overflow_sub-result : goal.overflow_sub-result
overflow_sub-result c =
    let some = c.requires.some in
    let fits = c.requires.fits in
    let low : c.args.range.from < 128 = omega (arith, some, fits) in
    let high : c.args.range.end < 128 = omega (arith, fits) in
    less-or-equal _ _ (2 ^ c.args.range.from) (2 ^ c.args.range.end) (one_shl c.args.range.from 128 low) (one_shl c.args.range.end 128 high)
    (pow_below c.args.range.from c.args.range.end some)
