use Rattle.std.proofs.Common.{arith}
use Rattle.std.proofs.lemmas.Nat.Bits.{and_high}
use Rattle.spu_asm.proofs.entry.Goals as goal

pub returns-in-Some-clause-aligned : goal.returns-in-Some-clause-aligned
returns-in-Some-clause-aligned c = omega (arith, and_high c.in-Some.at 16 2)

pub returns-in-Some-clause-within : goal.returns-in-Some-clause-within
returns-in-Some-clause-within c = omega (arith, and_high c.in-Some.at 16 2)
