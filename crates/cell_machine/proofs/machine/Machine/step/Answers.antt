use Rattle.std.proofs.Common.{◌≡◌, arith, take, drop, length, ◌++◌, ◌∷◌, [], true, refl, ap, ◌∙◌}
use Rattle.std.specs.Prelude.{is_ok, vec_capacity}
use Rattle.std.proofs.Math.Seq.{take-append_seam}
use Rattle.cell_machine.proofs.Replays.{machine-step, machine-fit, machine-can}
use Rattle.cell_base.specs.declared.steps.Step.TheVariants.{Exec}
use Rattle.cell_machine.specs.Run.{Ran}
use Rattle.cell_machine.proofs.AnyStep.{machine-replayed, made-allowed}
use Rattle.cell_machine.proofs.machine.Machine.step.Goals as goal

pub invariant_of-self-2 : goal.invariant_of-self-2
invariant_of-self-2 c =
    let made = rw c.if-not-act.false at (c.act.ensures.made c.self.invariant.0.state (rw c.deref_mut-2.ensures.value c.self.invariant.0.shown) c.self.invariant.0.settled) in
    let ok : is_ok c.push-2.result ≡ true = c.push-2.ensures.succeeds (omega arith) in
    let items : c.push-2.new.self.items ≡ c.self.inside.steps.items ++ c.args.s ∷ [] = rw ok at c.push-2.ensures.items in
    let long : c.self.inside.processors.len ≡ length c.act.new.processors = omega arith in
    let parts : take c.self.inside.processors.len (c.act.new.processors ++ drop (length c.act.new.processors) c.self.inside.processors.items) ≡ c.act.new.processors =
    rw long (take-append_seam c.act.new.processors _) in
    rw (items, parts) (machine-step _ _ (vec_capacity c.self.inside.steps) c.self.inside.processors.items _ _ _ _ _ c.args.s _ c.self.invariant.0 made (omega arith) c.act.ensures.size c.act.ensures.script (omega arith) c.push-2.ensures.capacity, c.act.ensures.blocked)

pub act-requires-clause-blocked : goal.act-requires-clause-blocked
act-requires-clause-blocked c = rw c.deref_mut-2.ensures.value c.self.invariant.1

pub act-requires-clause-can : goal.act-requires-clause-can
act-requires-clause-can c = rw c.deref_mut-2.ensures.value (machine-can _ _ _ _ _ _ c.self.invariant.0 (omega arith))

pub act-requires-clause-fit : goal.act-requires-clause-fit
act-requires-clause-fit c = rw c.deref_mut-2.ensures.value (machine-fit _ _ _ _ _ _ c.self.invariant.0)

pub invariant_of-self-then-not-act : goal.invariant_of-self-then-not-act
invariant_of-self-then-not-act c =
    let same = rw c.if-not-act.true at c.act.ensures.refused in
    let is : c.act.new.processors ≡ c.self.inside.processors.items = same.0 ∙ c.deref_mut-2.ensures.value in
    let long : c.self.inside.processors.len ≡ length c.act.new.processors = omega arith in
    let parts : take c.self.inside.processors.len (c.act.new.processors ++ drop (length c.act.new.processors) c.self.inside.processors.items) ≡ c.act.new.processors =
    rw long (take-append_seam c.act.new.processors _) in
    rw parts (rw (is, same.1, same.2) c.self.invariant.0, c.act.ensures.blocked)

pub act_exec-requires-clause-blocked : goal.act_exec-requires-clause-blocked
act_exec-requires-clause-blocked c = rw c.deref_mut.ensures.value c.self.invariant.1

pub act_exec-requires-clause-can : goal.act_exec-requires-clause-can
act_exec-requires-clause-can c = rw c.deref_mut.ensures.value (machine-can _ _ _ _ _ _ c.self.invariant.0 (omega arith))

pub invariant_of-self-in-Exec : goal.invariant_of-self-in-Exec
invariant_of-self-in-Exec c =
    let made = rw c.if-not-act_exec.false at (c.act_exec.ensures.made c.self.inside.host c.self.invariant.0.state (rw c.deref_mut.ensures.value c.self.invariant.0.shown) c.self.invariant.0.settled) in
    let ok : is_ok c.push.result ≡ true = c.push.ensures.succeeds (omega arith) in
    let items : c.push.new.self.items ≡ c.self.inside.steps.items ++ Exec c.in-Exec.spe ∷ [] = rw ok at c.push.ensures.items in
    let long : c.self.inside.processors.len ≡ length c.act_exec.new.processors = omega arith in
    let parts : take c.self.inside.processors.len (c.act_exec.new.processors ++ drop (length c.act_exec.new.processors) c.self.inside.processors.items) ≡ c.act_exec.new.processors =
    rw long (take-append_seam c.act_exec.new.processors _) in
    rw (items, parts) (machine-step _ _ (vec_capacity c.self.inside.steps) c.self.inside.processors.items _ _ _ _ _ (Exec c.in-Exec.spe) _ c.self.invariant.0 made (omega arith) (record { lines = refl; spes = refl }) refl (omega arith) c.push.ensures.capacity, c.act_exec.ensures.blocked)

pub returns-in-Exec-clause-allowed : goal.returns-in-Exec-clause-allowed
returns-in-Exec-clause-allowed c =
    let made = rw c.if-not-act_exec.false at (c.act_exec.ensures.made c.self.inside.host c.self.invariant.0.state (rw c.deref_mut.ensures.value c.self.invariant.0.shown) c.self.invariant.0.settled) in
    let some = made-allowed c.args.self.now c.self.invariant.0.state (Exec c.in-Exec.spe) c.args.s _ (machine-replayed _ _ _ _ _ c.self.invariant.0 c.self.view_is)
    (let e = ap (λ (n : Ran). n.setup.budget) c.self.view_is in let l = ap (λ (n : Ran). length n.steps) c.self.view_is in omega arith) c.in-Exec.is made in
    ((λ ok. some), (λ there. refl))

pub invariant_of-self : goal.invariant_of-self
invariant_of-self c =
    let same = rw c.if-not-act_exec.true at c.act_exec.ensures.refused in
    let is : c.act_exec.new.processors ≡ c.self.inside.processors.items = same ∙ c.deref_mut.ensures.value in
    let long : c.self.inside.processors.len ≡ length c.act_exec.new.processors = omega arith in
    let parts : take c.self.inside.processors.len (c.act_exec.new.processors ++ drop (length c.act_exec.new.processors) c.self.inside.processors.items) ≡ c.act_exec.new.processors =
    rw long (take-append_seam c.act_exec.new.processors _) in
    rw parts (rw is c.self.invariant.0, c.act_exec.ensures.blocked)
