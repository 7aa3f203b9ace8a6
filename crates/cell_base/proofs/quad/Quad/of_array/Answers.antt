use Rattle.std.proofs.Common.{rules, ℕ, ◌<◌, get_or}
use Rattle.std.proofs.lemmas.Simd.{Each1-from_get_or}
use Rattle.cell_base.proofs.quad.Quad.of_array.Goals as goal

pub invariant_of-result : goal.invariant_of-result
invariant_of-result c =
    let byte : (i : ℕ) → get_or c.args.bytes i 0 < 256 = search rules in
    record { long = search rules; small = Each1-from_get_or (λ x. x < 256) c.args.bytes 0 (λ i _. byte i) }
