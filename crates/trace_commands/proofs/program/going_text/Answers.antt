use Rattle.std.proofs.Common.{◌≡◌, ◌∙◌, sym, subst, inl, inr, rules}
use Rattle.std.proofs.lemmas.Result.{err_from_is_err_and}
use Rattle.trace_commands.specs.Files.{HasRecord, HasChoices}
use Rattle.trace_commands.proofs.TellLaws.{goes_comes}
use Rattle.trace_commands.proofs.program.going_text.Goals as goal

pub returns-in_err-recorded-clause-comes : goal.returns-in_err-recorded-clause-comes
returns-in_err-recorded-clause-comes g c = λ told is.
    let p = err_from_is_err_and c.from_residual-in_err-recorded.result c.from_residual-in_err-recorded.ensures.1 in
    let r = c.in_err-recorded.ensures.comes told (c.read_start.ensures.same ∙ is) in
    rw (p.1, p.2) (inr (inl (c.in_ok-machine.machine.setup, c.in_ok-machine.ensures.comes told is, rw c.in_ok-machine.ensures.kept at r)))

pub returns-in_err-numbers-clause-comes : goal.returns-in_err-numbers-clause-comes
returns-in_err-numbers-clause-comes g c = λ told is.
    let p = err_from_is_err_and c.from_residual-in_err-numbers.result c.from_residual-in_err-numbers.ensures.1 in
    let has = c.in_ok-recorded.ensures.comes told (c.read_start.ensures.same ∙ is) in
    let r = c.in_err-numbers.ensures.comes told (c.read_recorded.ensures.same ∙ c.read_start.ensures.same ∙ is) in
    rw (p.1, p.2) (inr (inr (inl (c.in_ok-machine.machine.setup, c.in_ok-recorded.recorded.steps, c.in_ok-machine.ensures.comes told is, has, rw (c.in_ok-recorded.ensures.kept, c.in_ok-machine.ensures.kept) at r))))

pub returns-clause-comes : goal.returns-clause-comes
returns-clause-comes g c = λ told is.
    (let same : c.as_slice.result.now ≡ c.in_ok-numbers.numbers.items = search rules in
    goes_comes told c.args.machine.now c.args.record_file.now c.args.choices.now c.args.count _ _ c.in_ok-machine.machine.setup c.steps.result.now c.as_slice.result.now c.go_on.result (c.in_ok-machine.ensures.comes told is)
    (subst (HasRecord told c.args.record_file.now) (sym c.steps.ensures) (c.in_ok-recorded.ensures.comes told (c.read_start.ensures.same ∙ is)))
    (subst (HasChoices told c.args.choices.now) (sym same) (c.in_ok-numbers.ensures.comes told (c.read_recorded.ensures.same ∙ c.read_start.ensures.same ∙ is))) c.go_on.ensures)
