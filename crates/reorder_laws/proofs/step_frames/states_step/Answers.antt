use Rattle.reorder_laws.proofs.step_frames.states_step.Goals as goal
use Rattle.reorder_laws.proofs.Hosting.{host-leaves, host-made, next-leaves, next-made, host-next, closed-there}
use Rattle.reorder_laws.proofs.Happening.{steps-happen}
use Rattle.reorder_laws.proofs.Settling.{settled-twice, next-settles, settled-idle, settled-later, settled-now}

pub returns : goal.returns
returns c = record {
  host_leaves = host-leaves;
  host_made = host-made;
  next_leaves = next-leaves;
  next_made = next-made;
  host_next = host-next;
  closed = closed-there;
  twice = settled-twice;
  settles = next-settles;
  idle = settled-idle;
  later = settled-later;
  now = settled-now;
  happens = steps-happen;
}
