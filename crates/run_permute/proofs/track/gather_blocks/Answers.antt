use Rattle.std.proofs.Common.{◌≤◌, length, sym, ◌∙◌, subst, arith}
use Rattle.std.proofs.lemmas.List.{get_or_default}
use Rattle.run_permute.specs.Tracks.{AreChains, IsBlockFound, IsBounded, IsFound}
use Rattle.run_permute.proofs.Added.{sound-more}
use Rattle.run_permute.proofs.SettledEntries.{each-at, each-on}
use Rattle.run_permute.proofs.Changes.{each-from}
use Rattle.run_permute.proofs.Ends.{found-more}
use Rattle.run_permute.proofs.Ones.{each-next}
use Rattle.run_permute.proofs.track.gather_blocks.Goals as goal

pub gather-requires : goal.gather-requires
gather-requires g c =
    let m = g.here.run in
    let j = g.here.place in
    let b = c.index-blocks-k.result in
    let blocks = c.args.blocks.now in
    let same = sym c.index-blocks-k.is in
    (c.requires.0, (subst (AreChains m j) same (each-at (AreChains m j) blocks c.loop-k.k b c.requires.1.0 c.loop-k-test.true), subst IsBounded same (each-at IsBounded blocks c.loop-k.k b c.requires.1.1 c.loop-k-test.true)))

pub loop-k-preserved : goal.loop-k-preserved
loop-k-preserved g c =
    let m = g.here.run in
    let j = g.here.place in
    let end = c.args.end in
    let mid = c.loop-k.needs.items in
    let new = c.gather.new.needs.items in
    let k = c.loop-k.k in
    let kept = c.in_ok-strand.ensures.kept in
    record {
      kept = λ i h. kept i (c.loop-k.invariant.kept i h);
      sound = sound-more m j c.args.needs.now.items mid new c.loop-k.invariant.sound c.in_ok-strand.ensures.sound;
      found =
          each-next (IsBlockFound m j end mid) (IsBlockFound m j end new) c.args.blocks.now k (λ b. each-on (IsFound m j end mid) (IsFound m j end new) b.strands.items (λ s. found-more m j end mid new s kept)) c.loop-k.invariant.found
          (λ d. subst (IsBlockFound m j end new) (c.index-blocks-k.is ∙ get_or_default c.args.blocks.now k c.index-blocks-k.result d c.loop-k-test.true) c.in_ok-strand.ensures.found);
    }

pub returns-clause-found : goal.returns-clause-found
returns-clause-found g c =
    each-from (IsBlockFound g.here.run g.here.place c.args.end c.loop-k.needs.items) c.args.blocks.now (λ k d low. c.loop-k.invariant.found k d (let all : length c.args.blocks.now ≤ c.loop-k.k = c.loop-k-test.false in omega arith))
