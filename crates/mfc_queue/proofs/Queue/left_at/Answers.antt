use Rattle.std.proofs.Common.{subst}
use Rattle.mfc_queue.specs.At.{IsAt}
use Rattle.mfc_queue.proofs.Holding.{held-none, left-is}
use Rattle.mfc_queue.proofs.Queue.left_at.Goals as goal

pub unreachable-requires : goal.unreachable-requires
unreachable-requires c = held-none _ c.args.cmd c.requires c.in-None.ensures.none

pub returns-clause-left : goal.returns-clause-left
returns-clause-left c = λ calls stands.
    subst (IsAt c.missing_at.result c.args.n) (left-is _ calls c.args.cmd c.in-Some.i c.held_at-h.result.now stands c.in-Some.ensures.found.0 c.held_at-h.ensures c.in-Some.ensures.found.1 c.held_at-h.result.now.few) c.missing_at.ensures.at
