use Rattle.std.proofs.Common.{◌≡◌, length, arith}
use Rattle.cell_base.specs.Words.{lines_of}
use Rattle.cell_base.proofs.WordLaws.{no_lines}
use Rattle.trace_commands.proofs.PlanLaws.{one_line, all_lines}
use Rattle.trace_commands.proofs.plan.plan_text.Goals as goal

pub loop-rest-preserved : goal.loop-rest-preserved
loop-rest-preserved c = record {
  few = omega (arith, c.loop-rest.invariant.few, c.first_line.ensures.less);
  spes = omega (arith, c.loop-rest.invariant.spes, c.in_ok-spes.ensures.few);
  so_far =
      one_line c.loop-rest.out.items c.put_line.new.out.items _ c.loop-rest.number c.loop-rest.spes c.in_ok-spes.spes (lines_of c.loop-rest.rest.now) c.first_line.result.0.now (lines_of c.first_line.result.1.now) c.first_line.ensures.line
      c.in_ok-spes.ensures.spes c.in_ok-spes.ensures.line c.loop-rest.invariant.so_far;
}

pub returns : goal.returns
returns c =
    let empty : length c.loop-rest.rest.now ≡ 0 = grind arith in
    all_lines c.loop-rest.out.items _ c.loop-rest.number c.loop-rest.spes (lines_of c.loop-rest.rest.now) (no_lines c.loop-rest.rest.now empty) c.loop-rest.invariant.so_far
