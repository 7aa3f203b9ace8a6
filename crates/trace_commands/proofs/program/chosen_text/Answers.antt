use Rattle.std.proofs.Common.{◌≡◌, ◌∙◌, ap, subst, inr, rules}
use Rattle.std.proofs.lemmas.Result.{err_from_is_err_and}
use Rattle.cell_machine.specs.Run.{Ran}
use Rattle.trace_commands.specs.Choices.{with_choices}
use Rattle.trace_commands.specs.Told.{TellsRecord}
use Rattle.trace_commands.proofs.program.chosen_text.Goals as goal

pub returns-in_err-numbers-clause-comes : goal.returns-in_err-numbers-clause-comes
returns-in_err-numbers-clause-comes g c = λ told is.
    let p = err_from_is_err_and c.from_residual-in_err-numbers.result c.from_residual-in_err-numbers.ensures.1 in
    let r = c.in_err-numbers.ensures.comes told (c.read_start.ensures.same ∙ is) in
    rw (p.1, p.2) (inr (c.in_ok-machine.machine.setup, c.in_ok-machine.ensures.comes told is, rw c.in_ok-machine.ensures.kept at r))

pub returns-in-Ok-clause-comes : goal.returns-in-Ok-clause-comes
returns-in-Ok-clause-comes g c = λ told is.
    (let numbers = c.in_ok-numbers.numbers.items in
    let same : c.as_slice.result.now ≡ numbers = search rules in
    let made = c.run_chosen.ensures ∙ ap (with_choices c.in_ok-machine.machine) same ∙ ap (λ (m : Ran). with_choices m numbers) c.in_ok-machine.ensures.starts in (
      c.in_ok-machine.machine.setup,
      numbers,
      c.in_ok-machine.ensures.comes told is,
      c.in_ok-numbers.ensures.comes told (c.read_start.ensures.same ∙ is),
      subst (λ (m : Ran). TellsRecord m c.in-Ok.text.items) made c.in-Ok.ensures,
    ))
