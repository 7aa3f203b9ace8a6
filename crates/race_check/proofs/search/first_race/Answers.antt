use Rattle.std.proofs.Common.{◌<◌, arith, below_more}
use Rattle.std.proofs.lemmas.Bool.{both_ways}
use Rattle.race_check.specs.Walks.{IsOrdered}
use Rattle.race_check.proofs.Checks.{first_found}
use Rattle.race_check.proofs.search.first_race.Goals as goal

pub loop-i-preserved : goal.loop-i-preserved
loop-i-preserved c = below_more _ _ c.loop-i.invariant (λ race. both_ways _ c.if-is_race.false (c.is_race.ensures.1 race))

pub returns-then-is_race : goal.returns-then-is_race
returns-then-is_race c = first_found (IsOrdered c.args.walk.now.machine) c.args.accesses.now c.loop-i.i c.args.last (c.is_race.ensures.0 c.if-is_race.true) c.loop-i.invariant

pub unreachable-requires : goal.unreachable-requires
unreachable-requires c =
    let low : c.requires.some.0 < c.args.last = c.requires.some.1.below in
    c.loop-i.invariant c.requires.some.0 (omega (arith, low, c.loop-i-test.false)) c.requires.some.1
