use Rattle.std.proofs.Common.{◌≡◌, Some, sym, subst, refl, ◌∙◌}
use Rattle.cell_machine.specs.Run.{first_allowed}
use Rattle.cell_machine.specs.Shows.{Shows}
use Rattle.cell_machine.proofs.Choices.{first-spu, first_allowed-allowed}
use Rattle.cell_machine.proofs.acting.act_first.Goals as goal

pub returns-in-Some-clause-first : goal.returns-in-Some-clause-first
returns-in-Some-clause-first c = λ M shows all. first-spu M _ (sym c.in-Some.is ∙ c.act_first_of_spus.ensures.first _ M shows all) refl

pub returns-in-Some-clause-made : goal.returns-in-Some-clause-made
returns-in-Some-clause-made c = λ M shows all. rw c.in-Some.is at (c.act_first_of_spus.ensures.made _ M shows all)

pub returns-in_ok-step-in-None-clause-first : goal.returns-in_ok-step-in-None-clause-first
returns-in_ok-step-in-None-clause-first c = λ M shows all.
    let same : c.act_first_of_spus.new.processors ≡ c.args.processors.now = rw c.in-None.is at c.act_first_of_spus.ensures.refused in
    let now = subst (λ ps. Shows ps c.args.memory.now c.args.host.now M) (sym same) shows in
    let first = c.first_of_others.ensures _ M now (sym (c.act_first_of_spus.ensures.first _ M shows all) ∙ c.in-None.is) in
    let is : first_allowed M ≡ Some c.in_ok-step-in-None.step = sym first ∙ c.in_ok-step-in-None.was in
    c.act_allowed.ensures.done M now all (first_allowed-allowed M _ is) ∙ sym is
