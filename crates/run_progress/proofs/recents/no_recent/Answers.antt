use Rattle.run_progress.proofs.recents.no_recent.Goals as goal
use Rattle.run_progress.specs.Progress.{executed, last_change}

pub returns-clause-recent : goal.returns-clause-recent
unfolding executed last_change
returns-clause-recent c = λ p r at. c.loop.invariant.none p r at
