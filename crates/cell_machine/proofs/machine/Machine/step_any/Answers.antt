use Rattle.std.proofs.Common.{◌≡◌, arith, take, drop, length, ◌++◌, ◌∷◌, [], true, ap, sym, ◌∙◌}
use Rattle.std.specs.Prelude.{is_ok, vec_capacity}
use Rattle.std.proofs.Math.Seq.{take-append_seam}
use Rattle.cell_machine.specs.Run.{Ran}
use Rattle.cell_machine.proofs.AnyStep.{machine-replayed, any-none}
use Rattle.cell_machine.proofs.Replays.{machine-step, machine-fit, machine-can}
use Rattle.cell_machine.proofs.machine.Machine.step_any.Goals as goal

pub invariant_of-self-2 : goal.invariant_of-self-2
invariant_of-self-2 c =
    let made = rw c.in_ok-step.was at (c.act_first.ensures.made c.self.invariant.0.state (rw c.deref_mut.ensures.value c.self.invariant.0.shown) c.self.invariant.0.settled) in
    let ok : is_ok c.push.result ≡ true = c.push.ensures.succeeds (omega arith) in
    let items : c.push.new.self.items ≡ c.self.inside.steps.items ++ c.in_ok-step.step ∷ [] = rw ok at c.push.ensures.items in
    let long : c.self.inside.processors.len ≡ length c.act_first.new.processors = omega arith in
    let parts : take c.self.inside.processors.len (c.act_first.new.processors ++ drop (length c.act_first.new.processors) c.self.inside.processors.items) ≡ c.act_first.new.processors =
    rw long (take-append_seam c.act_first.new.processors _) in
    rw (items, parts) (machine-step _ _ (vec_capacity c.self.inside.steps) c.self.inside.processors.items _ _ _ _ _ c.in_ok-step.step _ c.self.invariant.0 made (omega arith) c.act_first.ensures.size c.act_first.ensures.script (omega arith) c.push.ensures.capacity, c.act_first.ensures.blocked)

pub act_first-requires-clause-blocked : goal.act_first-requires-clause-blocked
act_first-requires-clause-blocked c = rw c.deref_mut.ensures.value c.self.invariant.1

pub act_first-requires-clause-can : goal.act_first-requires-clause-can
act_first-requires-clause-can c = rw c.deref_mut.ensures.value (machine-can _ _ _ _ _ _ c.self.invariant.0 (omega arith))

pub act_first-requires-clause-fit : goal.act_first-requires-clause-fit
act_first-requires-clause-fit c = rw c.deref_mut.ensures.value (machine-fit _ _ _ _ _ _ c.self.invariant.0)

pub returns-in_err-step-clause-none : goal.returns-in_err-step-clause-none
returns-in_err-step-clause-none c =
    any-none _ _ c.args.self.now c.self.invariant.0.state c.self.invariant.0.shown (machine-replayed _ _ _ _ _ c.self.invariant.0 c.self.view_is)
    (let e = ap (λ (n : Ran). n.setup.budget) c.self.view_is in let l = ap (λ (n : Ran). length n.steps) c.self.view_is in omega arith)
    (c.from_residual.ensures ∙ sym c.in_err-step.was ∙ c.act_first.ensures.first c.self.invariant.0.state (rw c.deref_mut.ensures.value c.self.invariant.0.shown) c.self.invariant.0.settled)

pub invariant_of-self : goal.invariant_of-self
invariant_of-self c =
    let same = rw c.in_err-step.was at c.act_first.ensures.refused in
    let is : c.act_first.new.processors ≡ c.self.inside.processors.items = same.0 ∙ c.deref_mut.ensures.value in
    let long : c.self.inside.processors.len ≡ length c.act_first.new.processors = omega arith in
    let parts : take c.self.inside.processors.len (c.act_first.new.processors ++ drop (length c.act_first.new.processors) c.self.inside.processors.items) ≡ c.act_first.new.processors =
    rw long (take-append_seam c.act_first.new.processors _) in
    rw parts (rw (is, same.1, same.2) c.self.invariant.0, c.act_first.ensures.blocked)
