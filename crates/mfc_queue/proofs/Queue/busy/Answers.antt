use Rattle.std.proofs.Common.{ap, ◌∙◌}
use Rattle.cell_base.specs.Bits.{has_bit}
use Rattle.mfc_queue.proofs.Groups.{busy-groups}
use Rattle.mfc_queue.proofs.Holding.{busy-held}
use Rattle.mfc_queue.proofs.Queue.busy.Goals as goal

pub returns-clause-bits : goal.returns-clause-bits
returns-clause-bits c = λ calls stands. c.args.self.now.groups ∙ busy-held _ calls stands

pub returns-clause-groups : goal.returns-clause-groups
returns-clause-groups c = λ calls tag stands. ap (λ bits. has_bit bits tag) (returns-clause-bits c calls stands) ∙ busy-groups calls tag
