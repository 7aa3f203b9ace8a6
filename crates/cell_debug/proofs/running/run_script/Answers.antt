use Rattle.std.proofs.Common.{◌≤◌, length}
use Rattle.state_lines.proofs.EndLemmas.{is-end}
use Rattle.cell_debug.proofs.DebugLemmas.{followed, after_on, after_done, prints_on, prints_done, on_the_way, on_err}
use Rattle.cell_debug.proofs.running.run_script.Goals as goal

pub loop-line-preserved : goal.loop-line-preserved
loop-line-preserved c = record {
  follows = followed c.args.m.now c.loop-line.m c.take_turns.new.m _ c.loop-line.invariant.follows c.take_turns.ensures;
  after = after_on c.loop-line.m c.take_turns.new.m c.args.m.now c.lines-line-items.result.now c.args.script.now c.loop-line.line-index _ c.loop-line-test.true c.lines-line-items.ensures c.take_turns.ensures c.loop-line.invariant.after;
  prints =
      prints_on c.loop-line.m c.take_turns.new.m c.args.m.now c.lines-line-items.result.now c.args.script.now c.loop-line.line-index _ _ c.loop-line.out.items c.print.new.out.items
      c.loop-line-test.true c.lines-line-items.ensures c.take_turns.ensures c.in_ok-print.ensures c.loop-line.invariant.prints;
}

pub returns-in_err-print-clause-on_the_way : goal.returns-in_err-print-clause-on_the_way
returns-in_err-print-clause-on_the_way c =
    on_err c.from_residual.result _ (on_the_way c.args.m.now c.loop-line.m c.args.script.now c.loop-line.line-index c.loop-line.invariant.follows c.loop-line.invariant.after)

pub returns-in_err-print-clause-end_word : goal.returns-in_err-print-clause-end_word
returns-in_err-print-clause-end_word c = λ M budget within. is-end M budget within

pub returns-clause-end_word : goal.returns-clause-end_word
returns-clause-end_word c = λ M budget within. is-end M budget within

pub returns-clause-prints : goal.returns-clause-prints
returns-clause-prints c =
    let past : length c.args.script.now ≤ c.loop-line.line-index = rw (← c.lines-line-items.ensures) c.loop-line-test.false in
    prints_done c.loop-line.m c.args.script.now c.loop-line.line-index _ c.loop-line.out.items past c.loop-line.invariant.prints

pub returns-clause-after : goal.returns-clause-after
returns-clause-after c =
    let past : length c.args.script.now ≤ c.loop-line.line-index = rw (← c.lines-line-items.ensures) c.loop-line-test.false in
    after_done c.loop-line.m c.args.m.now c.args.script.now c.loop-line.line-index past c.loop-line.invariant.after
