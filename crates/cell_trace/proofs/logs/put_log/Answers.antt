use Rattle.std.proofs.Common.{arith, refl, get_or}
use Rattle.cell_base.specs.declared.steps.Step.TheVariants.{Exec}
use Rattle.cell_machine.specs.Run.{next_of}
use Rattle.cell_trace.specs.Effects.{line_by, grown}
use Rattle.cell_trace.specs.Logs.{log_between}
use Rattle.cell_trace.proofs.Lemmas.{one_line, refused_later, last_line, refused_here, all_lines, none_refused, line_of_told, none_of_told, text_of_some, text_of_none, grown_of, kept_of, not_some, stops, goes_on}
use Rattle.cell_trace.proofs.logs.put_log.Goals as goal

pub returns-then-not-branch-clause-lines : goal.returns-then-not-branch-clause-lines
returns-then-not-branch-clause-lines c =
    let s = get_or c.args.steps.now c.loop-step.step-index (Exec 0) in
    let none = none_of_told (line_by log_between c.loop-step.m s) c.in_ok-put_step.field-0 c.in_ok-put_step.ensures.told c.if-not-branch.true in
    last_line log_between c.loop-step.out.items c.put_step.new.out.items _ c.loop-step.m s (Exec 0) c.loop-step.step-index c.args.steps.now (omega arith) refl none
    (text_of_none c.loop-step.out.items c.put_step.new.out.items _ none c.in_ok-put_step.ensures.line) c.loop-step.invariant.lines

pub returns-then-not-branch-clause-refused : goal.returns-then-not-branch-clause-refused
returns-then-not-branch-clause-refused c =
    let s = get_or c.args.steps.now c.loop-step.step-index (Exec 0) in
    let none = none_of_told (line_by log_between c.loop-step.m s) c.in_ok-put_step.field-0 c.in_ok-put_step.ensures.told c.if-not-branch.true in
    refused_here log_between _ c.loop-step.m s (Exec 0) c.loop-step.step-index c.args.steps.now (omega arith) refl none c.loop-step.invariant.refused

pub returns-then-not-branch-clause-made : goal.returns-then-not-branch-clause-made
returns-then-not-branch-clause-made c =
    let s = get_or c.args.steps.now c.loop-step.step-index (Exec 0) in
    let kept = kept_of c.put_step.new.m (grown c.loop-step.m s) c.loop-step.m c.in_ok-put_step.field-0 c.if-not-branch.true c.in_ok-put_step.ensures.made in
    stops _ c.loop-step.m c.put_step.new.m c.args.steps.now c.loop-step.step-index s (Exec 0) (omega arith) refl c.loop-step.invariant.made kept
    (not_some (next_of c.loop-step.m s) c.in_ok-put_step.field-0 c.in_ok-put_step.ensures.allowed c.if-not-branch.true)

pub loop-step-preserved : goal.loop-step-preserved
loop-step-preserved c =
    let s = get_or c.args.steps.now c.loop-step.step-index (Exec 0) in
    let line = line_of_told (line_by log_between c.loop-step.m s) c.in_ok-put_step.field-0 c.in_ok-put_step.ensures.told c.if-not-branch.false in
    let made = grown_of c.put_step.new.m (grown c.loop-step.m s) c.loop-step.m c.in_ok-put_step.field-0 c.if-not-branch.false c.in_ok-put_step.ensures.made in
    record {
      lines = one_line log_between c.loop-step.out.items c.put_step.new.out.items _ line.0 c.loop-step.m c.put_step.new.m s (Exec 0) c.loop-step.step-index c.args.steps.now (omega arith) refl line.1
          (text_of_some c.loop-step.out.items c.put_step.new.out.items line.0 _ line.1 c.in_ok-put_step.ensures.line) made c.loop-step.invariant.lines;
      made = goes_on _ c.loop-step.m c.put_step.new.m c.args.steps.now c.loop-step.step-index s (Exec 0) (omega arith) refl c.loop-step.invariant.made made;
      refused = refused_later log_between _ line.0 c.loop-step.m c.put_step.new.m s (Exec 0) c.loop-step.step-index c.args.steps.now (omega arith) refl line.1 made c.loop-step.invariant.refused;
    }

pub returns-clause-lines : goal.returns-clause-lines
returns-clause-lines c = all_lines log_between c.loop-step.out.items _ c.loop-step.m c.loop-step.step-index c.args.steps.now (omega arith) c.loop-step.invariant.lines

pub returns-clause-refused : goal.returns-clause-refused
returns-clause-refused c = none_refused _ c.loop-step.m c.loop-step.step-index c.args.steps.now (omega arith) c.loop-step.invariant.refused
