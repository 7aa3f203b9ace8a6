use Rattle.std.proofs.Common.{◌≤◌, length, Some, sym, ◌∙◌, subst, arith}
use Rattle.std.proofs.lemmas.List.{get_or_default}
use Rattle.run_permute.specs.Tracks.{IsNotAbove}
use Rattle.run_permute.specs.declared.strand.Strand.{Strand}
use Rattle.run_permute.proofs.Bounds.{above-more}
use Rattle.run_permute.proofs.Changes.{each-from}
use Rattle.run_permute.proofs.Ones.{each-next}
use Rattle.run_permute.proofs.block.high_of.Goals as goal

pub loop-strand-preserved : goal.loop-strand-preserved
loop-strand-preserved c =
    let first = c.strand-item.result in
    let high = c.loop-strand.high in
    let new = c.max-high.result in
    let up : high ≤ new = omega (arith, c.max-high.ensures) in
    let own : c.in-Some.until ≤ new = omega (arith, c.max-high.ensures) in
    each-next (λ (s : Strand). IsNotAbove (Some high) s.until) (λ (s : Strand). IsNotAbove (Some new) s.until) c.args.strands.now c.loop-strand.strand-index (λ s h. above-more high new s.until up h) c.loop-strand.invariant
    (λ d.
    let is = c.strand-item.is ∙ get_or_default c.args.strands.now c.loop-strand.strand-index first d c.loop-strand-test.true in
    subst (λ (s : Strand). IsNotAbove (Some new) s.until) is (subst (IsNotAbove (Some new)) (sym (sym c.until.ensures ∙ c.in-Some.is)) own))

pub returns : goal.returns
returns c =
    each-from (λ (s : Strand). IsNotAbove (Some c.loop-strand.high) s.until) c.args.strands.now (λ k d low. c.loop-strand.invariant k d (let all : length c.args.strands.now ≤ c.loop-strand.strand-index = c.loop-strand-test.false in omega arith))
