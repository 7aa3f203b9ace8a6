use Rattle.std.proofs.Common.{length}
use Rattle.reorder_laws.specs.OrderedLaws.{IsOrdered}
use Rattle.run_permute.proofs.Nths.{nth-same, nth-keeps-order}
use Rattle.run_permute.proofs.Ordered.{ordered-up}
use Rattle.run_permute.proofs.Zeros.{nth-zero}
use Rattle.run_permute.proofs.laws.numbers_name_reorderings.Goals as goal

pub returns-clause-one : goal.returns-clause-one
returns-clause-one c = λ m number a b. nth-same (IsOrdered m) (length m.steps) number a b

pub returns-clause-reorders : goal.returns-clause-reorders
returns-clause-reorders c = λ m number order. nth-keeps-order (IsOrdered m) (length m.steps) number order

pub returns-clause-zero : goal.returns-clause-zero
returns-clause-zero c = λ m order. nth-zero (IsOrdered m) (length m.steps) (ordered-up m) order
