use Rattle.std.proofs.Common.{arith, ◌≤◌, ap, length, sym, subst, ◌∙◌}
use Rattle.std.specs.Prelude.{◌||◌}
use Rattle.std.proofs.lemmas.List.{take_all}
use Rattle.unwritten_reads.specs.Marks.{is_marked}
use Rattle.unwritten_reads.specs.Ranges.{IsWithin, in_range}
use Rattle.unwritten_reads.proofs.Placing.{all-placed, are_placed, item-fits, piece-within, placed-more}
use Rattle.unwritten_reads.proofs.placed.placed_bytes.Goals as goal

pub range_of_placed-requires : goal.range_of_placed-requires
range_of_placed-requires c =
    (item-fits c.args.setup.now c.placed-pieces.result.now c.placed-pieces.ensures.placed c.placed-pieces.ensures.opening c.loop-piece.piece-index c.piece-item.result
    c.loop-piece-test.true c.piece-item.is).1

pub add-requires : goal.add-requires
add-requires c =
    let S = c.args.setup.now in
    let b = c.piece-item.result in
    let fits = item-fits S c.placed-pieces.result.now c.placed-pieces.ensures.placed c.placed-pieces.ensures.opening c.loop-piece.piece-index b c.loop-piece-test.true c.piece-item.is in
    let words = length c.loop-piece.known.marks in
    subst (IsWithin words) (sym c.range_of_placed.ensures) (piece-within (length S.entries) words b.spe b.at (length b.bytes.items) c.loop-piece.invariant.long fits.0 fits.1)

pub loop-piece-preserved : goal.loop-piece-preserved
loop-piece-preserved c =
    let S = c.args.setup.now in
    let pieces = c.placed-pieces.result.now in
    let i = c.loop-piece.piece-index in
    let b = c.piece-item.result in
    let fits = item-fits S pieces c.placed-pieces.ensures.placed c.placed-pieces.ensures.opening i b c.loop-piece-test.true c.piece-item.is in
    let old = c.loop-piece.known.marks in
    let new = c.add.new.self.marks in
    record {
      long = c.in_ok-add.ensures.long ∙ c.loop-piece.invariant.long;
      placed = placed-more old new pieces i b c.loop-piece-test.true c.piece-item.is fits.1 c.loop-piece.invariant.placed
          (λ k. c.in_ok-add.ensures.marked k ∙ ap (λ r. is_marked old k || in_range r k) c.range_of_placed.ensures);
    }

pub returns-clause-placed : goal.returns-clause-placed
returns-clause-placed c =
    let pieces = c.placed-pieces.result.now in
    let i = c.loop-piece.piece-index in
    let past : length pieces ≤ i = (let last = c.loop-piece-test.false in omega (arith, last)) in
    λ p x low. c.loop-piece.invariant.placed p x low ∙ ap (λ xs. are_placed xs p x) (take_all i pieces past) ∙ all-placed c.args.setup.now pieces c.placed-pieces.ensures.placed p x
