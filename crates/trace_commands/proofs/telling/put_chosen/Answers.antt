use Rattle.std.proofs.Common.{◌∙◌, sym, ap, arith, refl, get_or}
use Rattle.std.proofs.lemmas.List.Sums.{fold_more}
use Rattle.trace_commands.specs.Choices.{with_choice}
use Rattle.trace_commands.proofs.TellLaws.{none_chosen, more_chosen}
use Rattle.trace_commands.proofs.telling.put_chosen.Goals as goal

pub loop-number-init : goal.loop-number-init
loop-number-init c = record { lines = none_chosen c.args.machine.now c.args.out.now.items; chosen = refl }

pub loop-number-preserved : goal.loop-number-preserved
loop-number-preserved c = record {
  lines = more_chosen _ c.loop-number.machine c.put_choice.new.machine _ c.loop-number.out.items c.put_choice.new.out.items c.loop-number.invariant.lines c.in_ok-put_choice.ensures.lines;
  chosen = c.in_ok-put_choice.ensures.chosen ∙ ap (λ m. with_choice m (get_or c.args.numbers.now c.loop-number.number-index 0)) c.loop-number.invariant.chosen
      ∙ sym (fold_more with_choice c.args.machine.now c.args.numbers.now c.loop-number.number-index 0 (omega arith));
}
