use Rattle.mfc_queue.proofs.Holding.{held-none, one_of}
use Rattle.mfc_queue.proofs.Queue.done.Goals as goal

pub unreachable-requires : goal.unreachable-requires
unreachable-requires c = held-none _ c.args.cmd (one_of _ _ _ c.requires) c.in-None.ensures.none
