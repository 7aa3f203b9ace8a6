use Rattle.std.proofs.Common.{◌≡◌, arith, take, drop, length, ◌++◌, ◌∷◌, [], true, ◌∙◌, sym, subst}
use Rattle.std.specs.Prelude.{is_ok, vec_capacity, IsSomeAnd}
use Rattle.std.proofs.Math.Seq.{take-append_seam}
use Rattle.cell_machine.specs.Actors.{MissesNone}
use Rattle.cell_machine.proofs.AnyStep.{machine-replayed}
use Rattle.cell_machine.proofs.MissesNone.{misses_none}
use Rattle.cell_machine.proofs.Replays.{machine-step, machine-fit, machine-can}
use Rattle.cell_machine.proofs.machine.Machine.step_as.Goals as goal

pub invariant_of-self-2 : goal.invariant_of-self-2
invariant_of-self-2 c =
    let made = rw c.in_ok-step.was at (c.act_picked.ensures.made c.self.invariant.0.state (rw c.deref_mut.ensures.value c.self.invariant.0.shown) c.self.invariant.0.settled) in
    let ok : is_ok c.push.result ≡ true = c.push.ensures.succeeds (omega arith) in
    let items : c.push.new.self.items ≡ c.self.inside.steps.items ++ c.in_ok-step.step ∷ [] = rw ok at c.push.ensures.items in
    let long : c.self.inside.processors.len ≡ length c.act_picked.new.processors = omega arith in
    let parts : take c.self.inside.processors.len (c.act_picked.new.processors ++ drop (length c.act_picked.new.processors) c.self.inside.processors.items) ≡ c.act_picked.new.processors =
    rw long (take-append_seam c.act_picked.new.processors _) in
    rw (items, parts) (machine-step _ _ (vec_capacity c.self.inside.steps) c.self.inside.processors.items _ _ _ _ _ c.in_ok-step.step _ c.self.invariant.0 made (omega arith) c.act_picked.ensures.size c.act_picked.ensures.script (omega arith) c.push.ensures.capacity, c.act_picked.ensures.blocked)

pub act_picked-requires-clause-blocked : goal.act_picked-requires-clause-blocked
act_picked-requires-clause-blocked c = rw c.deref_mut.ensures.value c.self.invariant.1

pub act_picked-requires-clause-can : goal.act_picked-requires-clause-can
act_picked-requires-clause-can c = rw c.deref_mut.ensures.value (machine-can _ _ _ _ _ _ c.self.invariant.0 (omega arith))

pub act_picked-requires-clause-fit : goal.act_picked-requires-clause-fit
act_picked-requires-clause-fit c = rw c.deref_mut.ensures.value (machine-fit _ _ _ _ _ _ c.self.invariant.0)

pub returns-then-len-budget-clause-complete : goal.returns-then-len-budget-clause-complete
returns-then-len-budget-clause-complete c = subst (λ o. IsSomeAnd o MissesNone) (sym (machine-replayed _ _ _ _ _ c.self.invariant.0 c.self.view_is)) (misses_none c.self.inside.processors.items c.self.invariant.0.state c.self.invariant.0.shown)

pub returns-in_err-step-clause-complete : goal.returns-in_err-step-clause-complete
returns-in_err-step-clause-complete c = subst (λ o. IsSomeAnd o MissesNone) (sym (machine-replayed _ _ _ _ _ c.self.invariant.0 c.self.view_is)) (misses_none c.self.inside.processors.items c.self.invariant.0.state c.self.invariant.0.shown)

pub returns-clause-complete : goal.returns-clause-complete
returns-clause-complete c = subst (λ o. IsSomeAnd o MissesNone) (sym (machine-replayed _ _ _ _ _ c.self.invariant.0 c.self.view_is)) (misses_none c.self.inside.processors.items c.self.invariant.0.state c.self.invariant.0.shown)

pub invariant_of-self : goal.invariant_of-self
invariant_of-self c =
    let same = rw c.in_err-step.was at c.act_picked.ensures.refused in
    let is : c.act_picked.new.processors ≡ c.self.inside.processors.items = same.0 ∙ c.deref_mut.ensures.value in
    let long : c.self.inside.processors.len ≡ length c.act_picked.new.processors = omega arith in
    let parts : take c.self.inside.processors.len (c.act_picked.new.processors ++ drop (length c.act_picked.new.processors) c.self.inside.processors.items) ≡ c.act_picked.new.processors =
    rw long (take-append_seam c.act_picked.new.processors _) in
    rw parts (rw (is, same.1, same.2) c.self.invariant.0, c.act_picked.ensures.blocked)
