use Rattle.std.proofs.Common.{◌≡◌, ◌++◌, arith, subst}
use Rattle.cell_hunt.specs.Bests.{IsBestOf}
use Rattle.cell_hunt.specs.Choices.{key_of}
use Rattle.cell_hunt.specs.Offers.{offered_by_queue, queue_length}
use Rattle.cell_hunt.proofs.Bests.{length-is, queue-init, queue-next}
use Rattle.cell_hunt.proofs.offers.with_queue.Goals as goal

pub loop-index-init : goal.loop-index-init
loop-index-init c = λ steps so_far. queue-init (key_of c.args.machine.now c.args.strategy c.args.keys.now) c.args.machine.now c.args.word c.args.spe steps c.args.best so_far

pub loop-index-preserved : goal.loop-index-preserved
loop-index-preserved c = λ steps so_far.
    queue-next (key_of c.args.machine.now c.args.strategy c.args.keys.now) c.args.machine.now c.args.word c.args.spe c.loop-index.index steps c.with_command-best.result
    (c.with_command-best.ensures (steps ++ offered_by_queue c.args.machine.now c.args.word c.args.spe c.loop-index.index) (c.loop-index.invariant steps so_far))

pub returns : goal.returns
returns c = λ steps so_far.
    let m = c.args.machine.now in
    let count : c.queued-index-end.result ≡ queue_length m c.args.spe = length-is m c.args.spe c.queued-index-end.result c.queued-index-end.ensures in
    let n : c.loop-index.index ≡ queue_length m c.args.spe = omega (arith, count, c.loop-index-test.false, c.loop-index.auto.index-end) in
    subst (λ k. IsBestOf (key_of m c.args.strategy c.args.keys.now) (steps ++ offered_by_queue m c.args.word c.args.spe k) c.loop-index.best) n (c.loop-index.invariant steps so_far)
