use Rattle.std.proofs.Common.{◌≡◌, Some, sym, ◌∙◌}
use Rattle.cell_machine.specs.Run.{picked}
use Rattle.cell_machine.proofs.AnyStep.{picked-next, made-picked, refused-picked}
use Rattle.cell_machine.proofs.Controllers.{can-kept}
use Rattle.cell_machine.proofs.acting.act_picked.Goals as goal

pub returns-then-act_exec-clause-picked : goal.returns-then-act_exec-clause-picked
returns-then-act_exec-clause-picked c = λ M shows all.
    rw c.in-Spu.is (made-picked M c.in-Spu.spe c.args.choice _ (rw c.if-act_exec.true at (c.act_exec.ensures.made _ M shows all)))

pub returns-then-act_exec-clause-made : goal.returns-then-act_exec-clause-made
returns-then-act_exec-clause-made c = λ M shows all. rw c.if-act_exec.true at (c.act_exec.ensures.made _ M shows all)

pub returns-else-act_exec-clause-picked : goal.returns-else-act_exec-clause-picked
returns-else-act_exec-clause-picked c = λ M shows all.
    rw c.in-Spu.is (refused-picked M c.in-Spu.spe c.args.choice (rw c.if-act_exec.false at (c.act_exec.ensures.made _ M shows all)))

pub nth_step-requires : goal.nth_step-requires
nth_step-requires c = can-kept _ _ c.requires.can

pub returns-in_ok-step-in_default-clause-picked : goal.returns-in_ok-step-in_default-clause-picked
returns-in_ok-step-in_default-clause-picked c = λ M shows all.
    let is : picked M c.args.actor c.args.choice ≡ Some c.in_ok-step-in_default.step = sym (c.nth_step.ensures _ M shows) ∙ c.in_ok-step-in_default.was in
    c.act_allowed.ensures.done M shows all (picked-next M c.args.actor c.args.choice _ is) ∙ sym is
