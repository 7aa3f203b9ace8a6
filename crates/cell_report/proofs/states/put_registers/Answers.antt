use Rattle.std.proofs.Common.{arith}
use Rattle.cell_report.proofs.Texts.{one_register, no_register}
use Rattle.cell_report.proofs.states.put_registers.Goals as goal

pub loop-quad-preserved : goal.loop-quad-preserved
loop-quad-preserved c =
    let so_far = c.loop-quad.invariant.short in
    let longer = c.in_ok-put_nonzero.ensures.short in
    record {
      number = omega arith;
      short = omega (arith, longer, so_far);
      whole = rw (c.in_ok-put_nonzero.ensures.text, c.quad-item.is) (one_register c.loop-quad.out.items _ _ c.loop-quad.r c.loop-quad.quad-index c.args.registers.now c.loop-quad-test.true c.loop-quad.invariant.whole);
    }

pub returns-clause-text : goal.returns-clause-text
returns-clause-text c = no_register c.loop-quad.out.items _ c.loop-quad.r c.loop-quad.quad-index c.args.registers.now c.loop-quad-test.false c.loop-quad.invariant.whole
