use Rattle.std.proofs.Common.{length, arith, ap}
use Rattle.cell_machine.specs.Run.{Ran}
use Rattle.cell_machine.proofs.AnyStep.{machine-replayed, queued-is, queued-allowed}
use Rattle.cell_machine.proofs.Replays.{machine-kept}
use Rattle.cell_machine.proofs.machine.Machine.pick_queued.Goals as goal

pub nth_queued-requires : goal.nth_queued-requires
nth_queued-requires c = rw c.deref.ensures.value (machine-kept c.self.invariant.0)

pub returns-clause-picked : goal.returns-clause-picked
returns-clause-picked c =
    queued-is _ c.args.self.now c.self.invariant.0.state c.args.spe c.args.index c.args.choice (machine-replayed _ _ _ _ _ c.self.invariant.0 c.self.view_is)
    (let e = ap (λ (n : Ran). n.setup.budget) c.self.view_is in let l = ap (λ (n : Ran). length n.steps) c.self.view_is in omega arith)
    (c.nth_queued.ensures c.self.inside.memory c.self.inside.host c.self.invariant.0.state (rw c.deref.ensures.value c.self.invariant.0.shown))

pub returns-clause-allowed : goal.returns-clause-allowed
returns-clause-allowed c =
    queued-allowed _ c.args.self.now c.self.invariant.0.state c.args.spe c.args.index c.args.choice (machine-replayed _ _ _ _ _ c.self.invariant.0 c.self.view_is)
    (let e = ap (λ (n : Ran). n.setup.budget) c.self.view_is in let l = ap (λ (n : Ran). length n.steps) c.self.view_is in omega arith)
    (c.nth_queued.ensures c.self.inside.memory c.self.inside.host c.self.invariant.0.state (rw c.deref.ensures.value c.self.invariant.0.shown))
