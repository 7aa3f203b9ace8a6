use Rattle.std.proofs.lemmas.Result.{IfOk-weaker}
use Rattle.std.proofs.Common.{length}
use Rattle.unwritten_reads.specs.Keeping.{Adds, Knows}
use Rattle.unwritten_reads.specs.Reads.{with_step}
use Rattle.unwritten_reads.proofs.Adding.{adds-none}
use Rattle.unwritten_reads.proofs.Fits.{touches-inside}
use Rattle.unwritten_reads.proofs.Knowing.{knows-more}
use Rattle.unwritten_reads.proofs.reads.UnwrittenReads.add.Goals as goal

pub returns-then-touches_none : goal.returns-then-touches_none
returns-then-touches_none c =
    let m = c.args.machine.now in
    let s = c.args.step in
    let e = c.args.effect.now in
    let old = c.args.self.now in
    knows-more m s e c.requires.effect old c.requires.knows c.args.place old c.requires.place
    (adds-none s e c.args.place old (c.touches_none.ensures.reads c.if-touches_none.true) (c.touches_none.ensures.writes c.if-touches_none.true))

pub add_touches-requires-clause-reads : goal.add_touches-requires-clause-reads
add_touches-requires-clause-reads c =
    (touches-inside c.args.machine.now c.args.step c.args.effect.now c.requires.effect c.requires.knows.opening (length c.args.self.now.known.marks) c.requires.knows.long).reads

pub add_touches-requires-clause-writes : goal.add_touches-requires-clause-writes
add_touches-requires-clause-writes c =
    (touches-inside c.args.machine.now c.args.step c.args.effect.now c.requires.effect c.requires.knows.opening (length c.args.self.now.known.marks) c.requires.knows.long).writes

pub returns : goal.returns
returns c =
    let m = c.args.machine.now in
    let s = c.args.step in
    let e = c.args.effect.now in
    let old = c.args.self.now in
    let new = c.add_touches.new.self in
    IfOk-weaker c.add_touches.result (λ _. Adds s e c.args.place old new) (λ _. Knows (with_step m s) new)
    (λ _ adds. knows-more m s e c.requires.effect old c.requires.knows c.args.place new c.requires.place adds) c.add_touches.ensures
