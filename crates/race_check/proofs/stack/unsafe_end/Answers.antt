use Rattle.std.proofs.Common.{arith}
use Rattle.run_walk.specs.Ordered.{IsOrdered}
use Rattle.run_walk.specs.Walks.{walked}
use Rattle.race_check.specs.Safe.{IsSafe}
use Rattle.race_check.proofs.StackLaws.{from_lower}
use Rattle.race_check.proofs.stack.unsafe_end.Goals as goal

pub loop-end-init : goal.loop-end-init
loop-end-init c = record { within = omega arith; safe = λ k low high. absurd (omega arith) }

pub loop-end-preserved : goal.loop-end-preserved
loop-end-preserved c = record {
  within = let within = c.loop-end.invariant.within in omega arith;
  safe = from_lower (λ s. IsSafe (IsOrdered (walked c.args.walk.now)) s c.args.last) c.args.steps.now c.loop-end.end (c.is_safe.ensures.safe c.if-not-is_safe.false) c.loop-end.invariant.safe;
}
