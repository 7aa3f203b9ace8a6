use Rattle.std.proofs.Common.{arith, sym, ap, ◌<◌, length}
use Rattle.cell_machine.specs.Run.{Ran}
use Rattle.cell_machine.proofs.AnyStep.{machine-replayed}
use Rattle.cell_machine.proofs.Replays.{machine-can}
use Rattle.cell_machine.proofs.MachineEffects.{allowed-within, effect-some, effect-told}
use Rattle.cell_machine.proofs.machine.Machine.allowed_effect.Goals as goal

pub allowed_effect-requires-clause-can : goal.allowed_effect-requires-clause-can
allowed_effect-requires-clause-can c = rw c.deref.ensures.value (machine-can _ _ _ _ _ _ c.self.invariant.0
    (let w : length c.args.self.now.steps < c.args.self.now.setup.budget = allowed-within c.args.self.now c.args.s c.requires in let e = ap (λ (n : Ran). n.setup.budget) c.self.view_is in let l = ap (λ (n : Ran). length n.steps) c.self.view_is in omega arith))

pub allowed_effect-requires-clause-allowed : goal.allowed_effect-requires-clause-allowed
allowed_effect-requires-clause-allowed c =
    (c.self.invariant.0.state, rw c.deref.ensures.value c.self.invariant.0.shown, effect-some c.args.self.now c.self.invariant.0.state c.args.s (machine-replayed _ _ _ _ _ c.self.invariant.0 c.self.view_is) c.requires)

pub returns : goal.returns
returns c =
    sym (effect-told c.args.self.now c.self.invariant.0.state c.args.s _ (machine-replayed _ _ _ _ _ c.self.invariant.0 c.self.view_is) c.requires
    (c.allowed_effect.ensures c.self.invariant.0.state (rw c.deref.ensures.value c.self.invariant.0.shown)))
