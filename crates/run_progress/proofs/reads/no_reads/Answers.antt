use Rattle.run_progress.proofs.reads.no_reads.Goals as goal
use Rattle.run_progress.specs.Progress.{last_change, polled}

pub returns-clause-reads : goal.returns-clause-reads
unfolding polled last_change
returns-clause-reads c = λ p o at. c.loop.invariant.none p o at
