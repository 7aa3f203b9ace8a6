use Rattle.reorder_laws.proofs.run_frames.runs_have_frames.Goals as goal
use Rattle.reorder_laws.proofs.Atomics.{runs-chain_atomics}
use Rattle.reorder_laws.proofs.Frames.{runs-have_frames}
use Rattle.reorder_laws.proofs.Ordering.{runs-fit, runs-order}
use Rattle.reorder_laws.proofs.Stalls.{stalled-more, stalled-one}

pub returns : goal.returns
returns c = record { frames = runs-have_frames; orders = runs-order; fit = runs-fit; atomics = runs-chain_atomics; more = stalled-more; one = stalled-one }
