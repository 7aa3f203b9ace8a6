use Rattle.std.proofs.Common.{◌∙◌, ◌++◌, arith, refl, sym, ap, subst, get_or, take}
use Rattle.std.proofs.lemmas.Result.{err_from_is_err_and}
use Rattle.cell_base.specs.declared.steps.Step.TheVariants.{Exec}
use Rattle.cell_machine.specs.Run.{Ran}
use Rattle.race_order.specs.OrderedRuns.{StandsForRun}
use Rattle.cell_trace.proofs.Lemmas.{goes_on}
use Rattle.trace_commands.specs.Choices.{start}
use Rattle.trace_commands.proofs.StepsLaws.{next_refused}
use Rattle.trace_commands.proofs.TellLaws.{no_lines, one_more_line}
use Rattle.trace_commands.proofs.before.put_each.Goals as goal

pub loop-step-init : goal.loop-step-init
loop-step-init g c = record {
  stands = subst (StandsForRun c.args.orderer.now) c.requires.0 c.requires.1.0;
  made = sym c.requires.0 ∙ c.requires.1.1;
  lines = no_lines g.m.setup c.args.steps.now c.args.out.now.items;
}

pub returns-in_err-put_next-clause-refused : goal.returns-in_err-put_next-clause-refused
returns-in_err-put_next-clause-refused g c =
    let p = err_from_is_err_and c.from_residual.result c.from_residual.ensures.1 in
    let i = c.loop-step.step-index in
    let made = c.loop-step.invariant.made ∙ sym (ap (λ (x : Ran). record x { steps = x.steps ++ take i c.args.steps.now }) c.requires.1.1) in
    rw (p.1, p.2) (next_refused g.m c.loop-step.machine c.args.steps.now i (get_or c.args.steps.now i (Exec 0)) (Exec 0) c.in_err-put_next.field-0.0 (omega arith) refl made c.in_err-put_next.ensures.refused)

pub loop-step-preserved : goal.loop-step-preserved
loop-step-preserved g c =
    let i = c.loop-step.step-index in
    let s = get_or c.args.steps.now i (Exec 0) in
    let made = goes_on (start g.m.setup) c.loop-step.machine c.put_next.new.machine c.args.steps.now i s (Exec 0) (omega arith) refl c.loop-step.invariant.made c.in_ok-put_next.ensures.made in
    record {
      stands = c.in_ok-put_next.ensures.stands;
      made = made;
      lines = one_more_line g.m.setup c.args.steps.now i _ _ _ _ (sym c.in_ok-put_next.ensures.made ∙ made) c.loop-step.invariant.lines c.in_ok-put_next.ensures.line;
    }
