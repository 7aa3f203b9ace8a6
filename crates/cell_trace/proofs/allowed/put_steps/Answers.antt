use Rattle.std.proofs.Common.{refl}
use Rattle.cell_machine.specs.Run.{state_of}
use Rattle.cell_trace.specs.Allowed.{next_steps}
use Rattle.cell_trace.proofs.NextSteps.{first_next, none_next, one_step, no_step, on_state}
use Rattle.cell_trace.proofs.allowed.put_steps.Goals as goal

pub returns-in_default : goal.returns-in_default
returns-in_default c =
    on_state (state_of c.args.m.now) _ _ c.pick.ensures.complete (λ M at.
    no_step c.args.out.now.items _ (next_steps M c.args.m.now.setup.budget c.args.actor) 0 (none_next c.args.m.now c.args.actor M at c.in_default.ensures.picked) refl)

pub loop-place-init : goal.loop-place-init
loop-place-init c = λ M at.
    one_step c.args.out.now.items c.put_may.new.out.items _ (next_steps M c.args.m.now.setup.budget c.args.actor) 0 c.in-Some.first (first_next c.args.m.now c.args.actor M c.in-Some.first at c.in-Some.ensures.picked) c.in_ok-put_may.ensures refl

pub returns-in_default-step_at : goal.returns-in_default-step_at
returns-in_default-step_at c =
    on_state (state_of c.args.m.now) _ _ c.pick.ensures.complete (λ M at.
    let so_far = c.loop-place.invariant M at in
    no_step c.loop-place.out.items _ (next_steps M c.args.m.now.setup.budget c.args.actor) c.loop-place.place (c.in_default-step_at.ensures M at so_far.0) so_far.1)

pub loop-place-preserved : goal.loop-place-preserved
loop-place-preserved c = λ M at.
    let so_far = c.loop-place.invariant M at in
    one_step c.loop-place.out.items c.put_may-in-loop-place.new.out.items _ (next_steps M c.args.m.now.setup.budget c.args.actor) c.loop-place.place c.in-Some-step_at.step (c.in-Some-step_at.ensures M at so_far.0) c.in_ok-put_may-2.ensures so_far.1
