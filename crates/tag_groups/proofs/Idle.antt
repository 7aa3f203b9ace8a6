-- The groups of a mask that aren't busy.
use Rattle.std.proofs.Common.{◌≡◌, ℕ, ◌-◌, ◌<◌, ◌^◌, min, arith, ◌∙◌, ap}
use Rattle.std.specs.Int.{bit_at, bit_not, w32}
use Rattle.std.proofs.lemmas.Nat.Bits.{bit_at_and, bit_at_not, bit_at-lt}
use Rattle.tag_groups.specs.Settle.{idle_groups, AreIdle}

pub are-idle : (busy mask : ℕ) → busy < 2 ^ 32 → AreIdle busy mask (idle_groups busy mask)
are-idle busy mask fits t within =
    let both : bit_at (idle_groups busy mask) t ≡ min (bit_at mask t) (1 - bit_at busy t) = bit_at_and mask (bit_not w32 busy) t ∙ ap (min (bit_at mask t)) (bit_at_not w32 busy t fits within) in
    let one = bit_at-lt mask t in
    let other = bit_at-lt busy t in
    (λ h. (omega arith, omega arith), λ h. let a = h.0 in let b = h.1 in omega arith)
