use Rattle.std.proofs.Common.{◌∙◌, sym, ap, arith, get_or}
use Rattle.std.proofs.lemmas.List.Sums.{fold_more}
use Rattle.trace_commands.specs.Choices.{with_choice}
use Rattle.trace_commands.proofs.choosing.run_chosen.Goals as goal

pub loop-number-preserved : goal.loop-number-preserved
loop-number-preserved c =
    c.make_chosen.ensures.made ∙ ap (λ m. with_choice m (get_or c.args.numbers.now c.loop-number.number-index 0)) c.loop-number.invariant
    ∙ sym (fold_more with_choice c.args.machine.now c.args.numbers.now c.loop-number.number-index 0 (omega arith))
