use Rattle.std.proofs.Common.{length, arith, ap}
use Rattle.cell_machine.specs.Run.{Ran}
use Rattle.cell_machine.proofs.AnyStep.{machine-replayed}
use Rattle.cell_machine.proofs.Replays.{machine-can}
use Rattle.cell_machine.proofs.EffectBytes.{writes-alone, looks-alone}
use Rattle.cell_machine.proofs.EffectsFitted.{effects-fit, each-byte}
use Rattle.cell_machine.proofs.StatusesFixed.{fixes-once}
use Rattle.cell_machine.proofs.MachineEffects.{effect-spent, effect-within, effect-allowed}
use Rattle.cell_machine.proofs.machine.Machine.effect.Goals as goal

pub returns-then-len-budget-clause-effect : goal.returns-then-len-budget-clause-effect
returns-then-len-budget-clause-effect c = effect-spent c.args.self.now c.args.s (let e = ap (λ (n : Ran). n.setup.budget) c.self.view_is in let l = ap (λ (n : Ran). length n.steps) c.self.view_is in omega arith)

pub returns-then-len-budget-clause-allowed : goal.returns-then-len-budget-clause-allowed
returns-then-len-budget-clause-allowed c = effect-allowed c.args.self.now c.args.s _
    (effect-spent c.args.self.now c.args.s (let e = ap (λ (n : Ran). n.setup.budget) c.self.view_is in let l = ap (λ (n : Ran). length n.steps) c.self.view_is in omega arith))

pub returns-then-len-budget-clause-writes : goal.returns-then-len-budget-clause-writes
returns-then-len-budget-clause-writes c = writes-alone

pub returns-then-len-budget-clause-looks : goal.returns-then-len-budget-clause-looks
returns-then-len-budget-clause-looks c = looks-alone

pub returns-then-len-budget-clause-fits : goal.returns-then-len-budget-clause-fits
returns-then-len-budget-clause-fits c = effects-fit

pub returns-then-len-budget-clause-bytes : goal.returns-then-len-budget-clause-bytes
returns-then-len-budget-clause-bytes c = each-byte

pub returns-then-len-budget-clause-fixed : goal.returns-then-len-budget-clause-fixed
returns-then-len-budget-clause-fixed c = fixes-once

pub effect_of-requires : goal.effect_of-requires
effect_of-requires c = rw c.deref.ensures.value (machine-can _ _ _ _ _ _ c.self.invariant.0 (omega arith))

pub returns-clause-effect : goal.returns-clause-effect
returns-clause-effect c =
    effect-within c.args.self.now c.self.invariant.0.state c.args.s _ (machine-replayed _ _ _ _ _ c.self.invariant.0 c.self.view_is)
    (let e = ap (λ (n : Ran). n.setup.budget) c.self.view_is in let l = ap (λ (n : Ran). length n.steps) c.self.view_is in omega arith)
    (c.effect_of.ensures c.self.invariant.0.state (rw c.deref.ensures.value c.self.invariant.0.shown))

pub returns-clause-allowed : goal.returns-clause-allowed
returns-clause-allowed c =
    effect-allowed c.args.self.now c.args.s _ (effect-within c.args.self.now c.self.invariant.0.state c.args.s _ (machine-replayed _ _ _ _ _ c.self.invariant.0 c.self.view_is)
    (let e = ap (λ (n : Ran). n.setup.budget) c.self.view_is in let l = ap (λ (n : Ran). length n.steps) c.self.view_is in omega arith)
    (c.effect_of.ensures c.self.invariant.0.state (rw c.deref.ensures.value c.self.invariant.0.shown)))

pub returns-clause-writes : goal.returns-clause-writes
returns-clause-writes c = writes-alone

pub returns-clause-looks : goal.returns-clause-looks
returns-clause-looks c = looks-alone

pub returns-clause-fits : goal.returns-clause-fits
returns-clause-fits c = effects-fit

pub returns-clause-bytes : goal.returns-clause-bytes
returns-clause-bytes c = each-byte

pub returns-clause-fixed : goal.returns-clause-fixed
returns-clause-fixed c = fixes-once
