use Rattle.std.proofs.Common.{◌∙◌, arith}
use Rattle.trace_commands.proofs.ChoicesLaws.{turn}
use Rattle.trace_commands.proofs.choosing.run_alone.Goals as goal

pub loop-number-preserved : goal.loop-number-preserved
loop-number-preserved c = record {
  setup = c.make_chosen.ensures.setup ∙ c.loop-number.invariant.setup;
  chosen = turn c.args.machine.now c.loop-number.machine c.make_chosen.new.machine c.loop-number.number c.loop-number.invariant.chosen c.make_chosen.ensures.made;
  count = omega (arith, c.make_chosen.ensures.longer c.if-not-make_chosen.false, c.loop-number.invariant.count);
}
