use Rattle.std.proofs.Common.{rules, subst, sym}
use Rattle.std.specs.List.Sorted.{IsNonDecreasing}
use Rattle.run_walk.specs.Ordered.{IsOrdered}
use Rattle.run_walk.specs.Walks.{walked}
use Rattle.race_check.specs.Safe.{IsThinned}
use Rattle.race_check.proofs.StackLaws.{ascend-remove, thinned_one}
use Rattle.race_check.proofs.stack.drop_one.Goals as goal

pub returns-in-Some-clause-thinned : goal.returns-in-Some-clause-thinned
returns-in-Some-clause-thinned c =
    let before = IsOrdered (walked c.args.walk.now) in
    subst (IsThinned before c.args.last c.args.steps.now.items) (sym c.remove.ensures.items) (thinned_one before c.args.last c.args.steps.now.items c.in-Some.k (search rules) (search rules))

pub returns-in-Some-clause-ascending : goal.returns-in-Some-clause-ascending
returns-in-Some-clause-ascending c = λ ascending. subst IsNonDecreasing (sym c.remove.ensures.items) (ascend-remove c.args.steps.now.items c.in-Some.k (search rules) ascending)
