use Rattle.mfc_queue.proofs.Holding.{held-none, command-at}
use Rattle.mfc_queue.proofs.Queue.command.Goals as goal

pub unreachable-requires : goal.unreachable-requires
unreachable-requires c = held-none _ c.args.cmd c.requires c.in-None.ensures.none

pub returns-clause-command : goal.returns-clause-command
returns-clause-command c = λ calls stands. command-at _ calls c.in-Some.i c.args.cmd _ stands c.in-Some.ensures.found.0 c.held_at.ensures c.in-Some.ensures.found.1
