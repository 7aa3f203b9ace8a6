use Rattle.std.proofs.Common.{◌≤◌, length, sym, ◌∙◌, subst, arith}
use Rattle.std.proofs.lemmas.List.{get_or_default}
use Rattle.run_permute.proofs.SettledEntries.{each-at}
use Rattle.run_permute.specs.Tracks.{IsChain, IsFound, places}
use Rattle.run_permute.specs.declared.strand.Strand.{Strand}
use Rattle.run_permute.proofs.Added.{sound-more}
use Rattle.run_permute.proofs.Changes.{each-from}
use Rattle.run_permute.proofs.Ends.{found-more}
use Rattle.run_permute.proofs.Ones.{each-next}
use Rattle.run_permute.proofs.block.gather_strands.Goals as goal

pub gather-requires : goal.gather-requires
gather-requires g c =
    let P = λ (s : Strand). IsChain g.here.run g.here.place (places s) in
    (c.requires.0, subst P (sym c.index-strands-k.is) (each-at P c.args.strands.now c.loop-k.k c.index-strands-k.result c.requires.1 c.loop-k-test.true))

pub loop-k-preserved : goal.loop-k-preserved
loop-k-preserved g c =
    let m = g.here.run in
    let j = g.here.place in
    let end = c.args.end in
    let mid = c.loop-k.needs.items in
    let new = c.gather.new.needs.items in
    let k = c.loop-k.k in
    record {
      kept = λ i h. c.in_ok-gather.ensures.kept i (c.loop-k.invariant.kept i h);
      sound = sound-more m j c.args.needs.now.items mid new c.loop-k.invariant.sound c.in_ok-gather.ensures.sound;
      found =
          each-next (IsFound m j end mid) (IsFound m j end new) c.args.strands.now k (λ s. found-more m j end mid new s c.in_ok-gather.ensures.kept) c.loop-k.invariant.found
          (λ d. subst (IsFound m j end new) (c.index-strands-k.is ∙ get_or_default c.args.strands.now k c.index-strands-k.result d c.loop-k-test.true) c.in_ok-gather.ensures.found);
    }

pub returns-clause-found : goal.returns-clause-found
returns-clause-found g c =
    each-from (IsFound g.here.run g.here.place c.args.end c.loop-k.needs.items) c.args.strands.now (λ k d low. c.loop-k.invariant.found k d (let all : length c.args.strands.now ≤ c.loop-k.k = c.loop-k-test.false in omega arith))
