use Rattle.std.proofs.Common.{◌≡◌, ℕ, ◌^◌, ◌<◌, ◌≤◌, ◌==◌, ap, sym, arith}
use Rattle.std.specs.Prelude.{false}
use Rattle.std.proofs.lemmas.Nat.Bits.{bit_at_above}
use Rattle.cell_base.specs.Bits.{has_bit}
use Rattle.cell_base.proofs.BitLaws.{bit-test}
use Rattle.cell_signals.specs.Registers.{number_of}
use Rattle.cell_machine.proofs.setup.is_or.Goals as goal

bit-above : (n k : ℕ) → n < 2 ^ 32 → 32 ≤ k → has_bit n k ≡ false
unfolding has_bit
bit-above n k small above = ap (λ b. b == 1) (bit_at_above n 32 k small above)

pub returns : goal.returns
returns c = bit-test c.args.or_modes (number_of c.args.spe c.args.register)

pub returns-then-spe-ge16 : goal.returns-then-spe-ge16
returns-then-spe-ge16 c =
    let low = c.requires.0 in
    let many = c.if-spe-ge16.true in
    sym (bit-above c.args.or_modes (number_of c.args.spe c.args.register) c.ranges.or_modes.fits (omega (arith, low, many)))
