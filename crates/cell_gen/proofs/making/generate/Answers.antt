use Rattle.cell_gen.proofs.Made.{one_more}
use Rattle.cell_gen.proofs.making.generate.Goals as goal

pub loop-preserved : goal.loop-preserved
loop-preserved c = one_more c.loop.setup c.add_processor.new.setup c.args.n c.loop.counter c.loop.invariant c.in_ok-add_processor.ensures.added
