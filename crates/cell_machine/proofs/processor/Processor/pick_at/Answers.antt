use Rattle.std.proofs.Common.{ap, sym, ◌∙◌}
use Rattle.std.specs.Prelude.{◌%◌, List, length, option_map, slice_get}
use Rattle.cell_base.specs.declared.steps.Step.{Step}
use Rattle.cell_machine.specs.Choices.{allowed_of_number}
use Rattle.cell_machine.specs.Spe.{is_faulted}
use Rattle.cell_machine.proofs.Places.{at-faulted, at-none, at-some, first-at}
use Rattle.cell_machine.proofs.SpeShown.{outstanding-same}
use Rattle.cell_machine.proofs.processor.Processor.pick_at.Goals as goal

pub returns-then-is_faulted : goal.returns-then-is_faulted
returns-then-is_faulted c = λ P shows.
    sym (ap (λ (xs : List Step). slice_get xs (c.args.choice % length xs)) (at-faulted c.args.spe P c.args.index (ap is_faulted shows.status ∙ sym c.is_faulted.ensures ∙ c.if-is_faulted.true)))

pub returns-in_default : goal.returns-in_default
returns-in_default c = λ P shows.
    let q = shows.queue in
    let none = ap (λ xs. slice_get xs c.args.index) (sym (outstanding-same q.calls P q.moves)) ∙ sym (c.outstanding_at.ensures.number q.calls q.stands) ∙ ap (option_map (λ x. x.0)) c.in_default.is in
    sym (ap (λ (xs : List Step). slice_get xs (c.args.choice % length xs)) (at-none c.args.spe P c.args.index none))

pub returns : goal.returns
returns c = λ P shows.
    let q = shows.queue in
    let sound = ap is_faulted shows.status ∙ sym c.is_faulted.ensures ∙ c.if-is_faulted.false in
    let there = ap (λ xs. slice_get xs c.args.index) (sym (outstanding-same q.calls P q.moves)) ∙ sym (c.outstanding_at.ensures.number q.calls q.stands) ∙ ap (option_map (λ x. x.0)) c.in-Some.is in
    c.ok.ensures.value
    ∙ first-at c.step_of_command.result _ _ (c.step_of_command.ensures P shows sound)
    ∙ ap (λ n. slice_get (allowed_of_number c.args.spe P c.in-Some.cmd) (c.args.choice % n)) (c.count_of_command-count.ensures.count c.args.spe P shows sound)
    ∙ sym (ap (λ (xs : List Step). slice_get xs (c.args.choice % length xs)) (at-some c.args.spe P c.args.index c.in-Some.cmd there))
