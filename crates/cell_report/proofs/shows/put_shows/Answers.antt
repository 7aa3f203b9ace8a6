use Rattle.std.proofs.Common.{arith, ap, ◌∙◌}
use Rattle.cell_machine.specs.Opening.{Opening}
use Rattle.state_lines.specs.Lines.{show_line}
use Rattle.cell_machine.specs.Run.{state_of}
use Rattle.cell_report.proofs.Texts.{of_state, shows-more}
use Rattle.cell_report.proofs.shows.put_shows.Goals as goal

pub loop-show-preserved : goal.loop-show-preserved
loop-show-preserved c = record {
  text = λ M stands.
      shows-more (show_line M) c.args.out.now.items c.loop-show.out.items _ c.shows-show-items.result.now c.args.m.now.setup.shows c.loop-show.show-index _
      (omega arith) (c.shows-show-items.ensures.shows ∙ ap (λ (S : Opening). S.shows) c.setup.ensures.setup) (c.loop-show.invariant.text M stands) (of_state (state_of c.args.m.now) _ M stands c.in_ok-put_show.ensures.text);
  short = let so_far = c.loop-show.invariant.short in let grew = c.in_ok-put_show.ensures.short in omega (arith, so_far, grew);
}
