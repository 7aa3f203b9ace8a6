use Rattle.mfc_queue.proofs.Holding.{held-none, parts-at}
use Rattle.mfc_queue.proofs.Queue.parts.Goals as goal

pub unreachable-requires : goal.unreachable-requires
unreachable-requires c = held-none _ c.args.cmd c.requires c.in-None.ensures.none

pub returns : goal.returns
returns c = λ calls stands. parts-at _ calls c.in-Some.i c.args.cmd c.held_at.result.now stands c.in-Some.ensures.found.0 c.held_at.ensures c.in-Some.ensures.found.1
