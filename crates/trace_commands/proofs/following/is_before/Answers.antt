use Rattle.trace_commands.proofs.following.is_before.Goals as goal

pub returns-then-i-steps-clause-ordered : goal.returns-then-i-steps-clause-ordered
returns-then-i-steps-clause-ordered g c = λ lt. c.before-then-i-steps.ensures.ordered
