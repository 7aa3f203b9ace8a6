use Rattle.std.proofs.Common.{◌≤◌, arith}
use Rattle.race_check.proofs.StackLaws.{from_lower, not_up_to}
use Rattle.race_check.proofs.stack.place_of.Goals as goal

pub loop-end-init : goal.loop-end-init
loop-end-init c = record { within = omega arith; after = λ k low high. absurd (omega arith) }

pub loop-end-preserved : goal.loop-end-preserved
loop-end-preserved c = record {
  within = let within = c.loop-end.invariant.within in omega arith;
  after = from_lower (λ s. c.args.step ≤ s) c.args.steps.now c.loop-end.end (not_up_to c.is_up_to.result _ c.args.step c.if-is_up_to.false c.is_up_to.ensures.1) c.loop-end.invariant.after;
}
