use Rattle.std.proofs.Common.{arith}
use Rattle.cell_machine.proofs.Spreading.{inform-absent, inform-there}
use Rattle.cell_machine.proofs.signals.deliver.Goals as goal

pub returns-in_default-clause-informed : goal.returns-in_default-clause-informed
returns-in_default-clause-informed c = λ spes two. rw c.in_default.is two

pub returns-then-sent-processors-clause-informed : goal.returns-then-sent-processors-clause-informed
returns-then-sent-processors-clause-informed c = λ spes two. rw c.in-Some.is (inform-absent _ spes c.in-Some.sent two (omega arith))

pub deliver-requires : goal.deliver-requires
deliver-requires c = rw c.in-Some.is at c.requires

pub returns-clause-informed : goal.returns-clause-informed
returns-clause-informed c = λ spes two. rw c.in-Some.is (inform-there _ spes c.in-Some.sent _ _ two (omega arith) c.deliver.ensures)
