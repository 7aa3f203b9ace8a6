use Rattle.run_permute.proofs.Settlings.{settled-else, settled-then}
use Rattle.run_permute.proofs.settling.Settling.is_settled.Goals as goal

pub returns-then-self-clause-settled : goal.returns-then-self-clause-settled
returns-then-self-clause-settled c = settled-then c.args.machine.now c.args.self.now c.steps-steps.ensures.run c.requires c.has_no_fault.result c.if-self.true c.has_no_fault.ensures

pub returns-then-self-clause-so_far : goal.returns-then-self-clause-so_far
returns-then-self-clause-so_far c t = c.requires.settled.0 c.if-self.true

pub returns-else-self-clause-settled : goal.returns-else-self-clause-settled
returns-else-self-clause-settled c = settled-else c.args.machine.now c.args.self.now c.steps-steps.ensures.run c.requires c.if-self.false
