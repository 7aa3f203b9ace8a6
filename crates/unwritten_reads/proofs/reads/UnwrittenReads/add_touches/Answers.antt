use Rattle.unwritten_reads.proofs.Adding.{adds-known}
use Rattle.unwritten_reads.proofs.reads.UnwrittenReads.add_touches.Goals as goal

pub returns-then-touches_known : goal.returns-then-touches_known
returns-then-touches_known c =
    adds-known c.args.step c.args.effect.now c.args.place c.args.self.now c.requires.reads (c.touches_known.ensures.reads c.if-touches_known.true)
    (c.touches_known.ensures.writes c.if-touches_known.true)
