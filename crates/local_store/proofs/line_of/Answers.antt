use Rattle.std.proofs.Common.{arith}
use Rattle.std.proofs.lemmas.Nat.Bits.{and_high}
use Rattle.local_store.proofs.line_of.Goals as goal

pub returns-clause-value : goal.returns-clause-value
returns-clause-value c = and_high c.args.at 14 4

pub returns-clause-within : goal.returns-clause-within
returns-clause-within c = omega (arith, and_high c.args.at 14 4)
