use Rattle.std.proofs.Common.{rules}
use Rattle.cell_hunt.proofs.Determined.{run-one}
use Rattle.cell_hunt.proofs.alone.machine_of_seed.Goals as goal

pub returns-clause-only : goal.returns-clause-only
returns-clause-only c = λ n is. run-one _ _ _ n _ is (search rules)
