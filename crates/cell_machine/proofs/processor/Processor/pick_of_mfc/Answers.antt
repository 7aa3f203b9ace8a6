use Rattle.std.proofs.Common.{ap, sym, ◌∙◌}
use Rattle.std.specs.Prelude.{◌%◌, List, length, slice_get}
use Rattle.cell_base.specs.declared.steps.Step.{Step}
use Rattle.cell_machine.specs.Choices.{allowed_of_mfc}
use Rattle.cell_machine.proofs.Places.{first-at}
use Rattle.cell_machine.proofs.processor.Processor.pick_of_mfc.Goals as goal

pub returns-then-is_idle : goal.returns-then-is_idle
returns-then-is_idle c = λ P shows. sym (ap (λ (xs : List Step). slice_get xs (c.args.choice % length xs)) (c.is_idle.ensures c.args.spe P shows c.if-is_idle.true))

pub returns : goal.returns
returns c = λ P shows.
    c.ok.ensures.value
    ∙ first-at c.step_of_mfc.result _ _ (c.step_of_mfc.ensures P shows)
    ∙ ap (λ n. slice_get (allowed_of_mfc c.args.spe P) (c.args.choice % n)) (c.count_of_mfc-count.ensures c.args.spe P shows)
