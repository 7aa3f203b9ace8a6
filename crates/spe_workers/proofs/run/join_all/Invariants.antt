use Rattle.std.proofs.Common.{◌≡◌, ◌+◌, All, vec_len}
use Rattle.cell_machine.specs.Run.{HasEnd}
use Rattle.cell_turn.specs.Choice.{ran}
use Rattle.cell_turn.specs.Known.{Belongs}
use Rattle.spe_workers.specs.Worked.{IsDone}
use Rattle.spe_workers.proofs.run.join_all.Given as goal

abbrev pub invariant-loop-worker : goal.invariant-loop-worker
invariant-loop-worker l = record {
  own : Belongs l.all l.shared;
  tokens : l.all.tokens + vec_len l.workers ≡ vec_len l.fn.workers;
  ended : HasEnd (ran l.all.setup l.all.seen);
  left : All (λ w. IsDone w.pass l.shared) l.workers.items;
}

abbrev pub decreases-loop-worker : goal.decreases-loop-worker
decreases-loop-worker l = goal.left-loop-worker l
