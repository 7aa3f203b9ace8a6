use Rattle.std.proofs.Common.{◌≡◌, List, Ok, Err}
use Rattle.std.proofs.lemmas.Result.{err_from_is_err_and}
use Rattle.cell_load.specs.Entries.{Entry}
use Rattle.cell_load.specs.Order.{machine_at}
use Rattle.cell_load.specs.Plans.{PlanGives}
use Rattle.cell_commands.specs.declared.fault.FileId.TheVariants.{Machine}
use Rattle.cell_commands.specs.Forms.{with_plan}
use Rattle.cell_commands.proofs.Steps.{leads_on, leads_plan, refuses_plan, refuses_after}
use Rattle.hunt_command.proofs.SourceLaws.{to_text, text_read}
use Rattle.hunt_command.proofs.sources.read_plan.Goals as goal

pub returns-in_err-text-clause-comes : goal.returns-in_err-text-clause-comes
returns-in_err-text-clause-comes g c = λ told is next.
    let p = err_from_is_err_and c.from_residual.result c.from_residual.ensures.1 in
    rw (p.1, p.2) (c.in_err-text.ensures.comes told is (λ text. with_plan (machine_at text) next))

pub returns-in-Ok-clause-comes : goal.returns-in-Ok-clause-comes
returns-in-Ok-clause-comes g c = λ told is next.
    let e : machine_at c.in_ok-text.text.items ≡ Ok c.in-Ok.plan = rw c.as_slice.ensures.value at c.in-Ok.ensures.exact in
    leads_on (c.in_ok-text.ensures.comes told is (λ text. with_plan (machine_at text) next)) (leads_plan told c.in_ok-text.text.items c.in-Ok.plan next e)

pub returns-in-Ok-clause-read : goal.returns-in-Ok-clause-read
returns-in-Ok-clause-read g c = λ told is. record {
  comes = text_read told Machine c.args.name.now c.in_ok-text.text.items (c.in_ok-text.ensures.comes told is to_text);
  says = rw c.as_slice.ensures.value at c.in-Ok.ensures.exact;
}

pub returns-in-Err-clause-comes : goal.returns-in-Err-clause-comes
returns-in-Err-clause-comes g c = λ told is next.
    let at : PlanGives {X = List Entry} (λ p. p) (Err c.in-Err.error) (machine_at c.in_ok-text.text.items) = rw c.as_slice.ensures.value at c.in-Err.ensures.exact in
    rw c.plan_fault.ensures.same
    (refuses_after told _ _ _ _ _ (c.in_ok-text.ensures.comes told is (λ text. with_plan (machine_at text) next))
    (refuses_plan (λ p. p) told c.in_ok-text.text.items next _ _ c.in-Err.error at))
