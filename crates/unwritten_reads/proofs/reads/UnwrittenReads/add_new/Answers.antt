use Rattle.std.proofs.Common.{length, refl, sym, subst}
use Rattle.unwritten_reads.specs.Ranges.{IsWithin}
use Rattle.unwritten_reads.proofs.Adding.{adds-new}
use Rattle.unwritten_reads.proofs.Spans.{is-within}
use Rattle.unwritten_reads.proofs.reads.UnwrittenReads.add_new.Goals as goal

pub add-requires : goal.add-requires
add-requires c =
    let words = length c.args.self.now.known.marks in
    subst (IsWithin words) (sym c.range_of.ensures) (is-within words c.args.effect.now.reads c.requires.reads)

pub add-requires-2 : goal.add-requires-2
add-requires-2 c =
    let words = length c.args.self.now.known.marks in
    subst (λ w. IsWithin w c.range_of-2.result) (sym c.in_ok-add.ensures.long)
    (subst (IsWithin words) (sym c.range_of-2.ensures) (is-within words c.args.effect.now.writes c.requires.writes))

pub returns : goal.returns
returns c =
    adds-new c.args.step c.args.effect.now c.args.place c.args.self.now c.unwritten_by-unwritten.result c.unwritten_by-unwritten.ensures c.add.new.self.marks c.add-2.new.self.marks c.range_of.result
    c.range_of-2.result c.range_of.ensures c.range_of-2.ensures c.in_ok-add.ensures.long c.in_ok-add-2.ensures.long c.in_ok-add.ensures.marked c.in_ok-add-2.ensures.marked _
    c.in_ok-keep.ensures refl
