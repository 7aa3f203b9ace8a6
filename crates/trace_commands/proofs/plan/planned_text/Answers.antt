use Rattle.std.proofs.Common.{sym, subst}
use Rattle.trace_commands.specs.Files.{PlanRefuses}
use Rattle.trace_commands.specs.Plans.{PlansText}
use Rattle.trace_commands.proofs.PlanLaws.{to_plan, to_machine, plan_refuses, machine_read, plan_comes}
use Rattle.trace_commands.proofs.plan.planned_text.Goals as goal

pub returns-in-Err-clause-comes : goal.returns-in-Err-clause-comes
returns-in-Err-clause-comes g c = λ told is.
    subst (PlanRefuses told c.args.machine.now _ _) (sym c.fault_of.ensures.told) (plan_refuses told c.args.machine.now _ _ c.in-Err.fault (λ next. c.in-Err.ensures.comes told is (to_plan next)))

pub returns-clause-comes : goal.returns-clause-comes
returns-clause-comes g c = λ told is.
    plan_comes told c.args.machine.now _ _ c.in-Ok.text.items c.text_plan.result (machine_read told c.args.machine.now c.in-Ok.text.items (c.in-Ok.ensures.comes told is to_machine)) (λ next. c.in-Ok.ensures.comes told is (to_plan next))
    (subst (λ t. PlansText t c.text_plan.result) c.as_slice.ensures.value c.text_plan.ensures)
