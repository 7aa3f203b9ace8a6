use Rattle.reorder_laws.proofs.Whole.{settled-runs-reorder}
use Rattle.reorder_laws.proofs.reorderings_are_runs.Goals as goal

pub returns : goal.returns
returns c = settled-runs-reorder
