use Rattle.run_progress.proofs.Replays.{if-ok}
use Rattle.run_progress.proofs.progress.progress_of.Goals as goal

pub returns-clause-trace : goal.returns-clause-trace
returns-clause-trace c = if-ok c.progress.result _ c.in_ok-follow_again.ensures.trace
