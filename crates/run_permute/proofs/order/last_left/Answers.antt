use Rattle.std.proofs.Common.{◌-◌, ◌<◌, ◌≤◌, length, get_or, arith}
use Rattle.run_permute.proofs.Entries.{at-in, in-get}
use Rattle.run_permute.proofs.Frees.{flagged, flags-down, not-flagged}
use Rattle.run_permute.proofs.order.last_left.Goals as goal

pub bounds-taken-step : goal.bounds-taken-step
bounds-taken-step c =
    let some : 0 < c.loop-left.left = c.loop-left-test.true in
    let within : c.loop-left.left ≤ length c.args.steps.now = c.loop-left.invariant.within in
    c.requires (get_or c.args.steps.now (c.loop-left.left - 1) 0) (in-get c.args.steps.now (c.loop-left.left - 1) (omega (arith, some, within)))

pub loop-left-preserved : goal.loop-left-preserved
loop-left-preserved c =
    let some : 0 < c.loop-left.left = c.loop-left-test.true in
    let within : c.loop-left.left ≤ length c.args.steps.now = c.loop-left.invariant.within in
    let step = get_or c.args.steps.now (c.loop-left.left - 1) 0 in
    let low = c.requires step (in-get c.args.steps.now (c.loop-left.left - 1) (omega (arith, some, within))) in
    record {
      within = omega (arith, within);
      after = flags-down c.args.taken.now c.args.steps.now (c.loop-left.left - 1) (flagged c.args.taken.now step low c.if-not-taken-step.false) (λ k i high at. c.loop-left.invariant.after k i (omega (arith, some, high)) at);
    }

pub returns-then-not-taken-step : goal.returns-then-not-taken-step
returns-then-not-taken-step c =
    let some : 0 < c.loop-left.left = c.loop-left-test.true in
    let within : c.loop-left.left ≤ length c.args.steps.now = c.loop-left.invariant.within in
    let step = get_or c.args.steps.now (c.loop-left.left - 1) 0 in
    (in-get c.args.steps.now (c.loop-left.left - 1) (omega (arith, some, within)), not-flagged c.args.taken.now step c.if-not-taken-step.true)

pub returns : goal.returns
returns c = λ i h.
    let none : c.loop-left.left ≤ 0 = c.loop-left-test.false in
    let r = at-in c.args.steps.now i h in
    c.loop-left.invariant.after r.0 i (omega (arith, none)) r.2
