use Rattle.reorder_laws.proofs.step_frames.controllers_step.Goals as goal
use Rattle.reorder_laws.proofs.Controlling.{piece-leaves, piece-made, elem-leaves, elem-made, retire-leaves, retire-made, atomic-leaves, atomic-made, commands-allowed, begins-behind, begun-behind, goes-alike, atomics-allowed}

pub returns : goal.returns
returns c = record {
  piece_leaves = piece-leaves;
  piece_made = piece-made;
  elem_leaves = elem-leaves;
  elem_made = elem-made;
  retire_leaves = retire-leaves;
  retire_made = retire-made;
  atomic_leaves = atomic-leaves;
  atomic_made = atomic-made;
  commands = commands-allowed;
  begins = begins-behind;
  begun = begun-behind;
  order = goes-alike;
  atomics = atomics-allowed;
}
