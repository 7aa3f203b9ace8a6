use Rattle.std.proofs.Common.{sym, ◌∙◌, ap}
use Rattle.std.specs.Prelude.{is_some}
use Rattle.mfc_queue.proofs.Holding.{held-is}
use Rattle.mfc_queue.proofs.Queue.look_part.Goals as goal

pub returns-in-None-clause-outstanding : goal.returns-in-None-clause-outstanding
returns-in-None-clause-outstanding c = λ calls stands. sym (ap is_some c.in-None.is) ∙ held-is _ calls c.args.cmd c.index_of.result stands c.index_of.ensures.found c.index_of.ensures.none
