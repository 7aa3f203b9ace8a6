use Rattle.std.proofs.lemmas.Bool.{both_ways}
use Rattle.race_check.specs.Walks.{IsOrdered}
use Rattle.race_check.proofs.Checks.{race_if, no_conflict}
use Rattle.race_check.proofs.search.is_race.Goals as goal

pub returns-then-conflicts : goal.returns-then-conflicts
returns-then-conflicts c =
    race_if (IsOrdered c.args.walk.now.machine) c.args.accesses.now c.args.i c.args.last _ _ c.requires.below c.requires.inside c.before-then-conflicts.result _ c.requires.last.last (c.conflicts.ensures.0 c.if-conflicts.true) c.before-then-conflicts.ensures

pub returns-else-conflicts : goal.returns-else-conflicts
returns-else-conflicts c = (
  λ t. absurd (both_ways _ c.if-conflicts.false t),
  λ race. absurd (no_conflict (IsOrdered c.args.walk.now.machine) c.args.accesses.now c.args.i c.args.last _ _ c.requires.below c.requires.inside (λ conflict. both_ways _ c.if-conflicts.false (c.conflicts.ensures.1 conflict)) race),
)
