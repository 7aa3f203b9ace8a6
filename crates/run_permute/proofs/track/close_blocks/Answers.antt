use Rattle.std.proofs.Common.{◌≡◌, suc, ◌+◌, sym, subst, arith}
use Rattle.std.specs.Prelude.{slice_set}
use Rattle.run_permute.specs.SettledLists.{AreChanged}
use Rattle.run_permute.specs.Tracks.{AreChains, IsBlockClosed, IsBounded}
use Rattle.run_permute.specs.declared.block.Block.{Block}
use Rattle.run_permute.proofs.SettledEntries.{each-at}
use Rattle.run_permute.proofs.SettledChanges.{changed-at, changed-more}
use Rattle.run_permute.proofs.Passed.{front-closed}
use Rattle.run_permute.proofs.track.close_blocks.Goals as goal

pub close-requires : goal.close-requires
close-requires g c =
    let d = c.index-blocks-k.result in
    let blocks = c.args.blocks.now in
    let same = changed-at (IsBlockClosed g.here.run g.here.place c.args.index) c.loop-k.k blocks c.loop-k.blocks d c.loop-k.invariant in
    (c.requires.0, (subst (AreChains g.here.run g.here.place) (sym same) (each-at (AreChains g.here.run g.here.place) blocks c.loop-k.k d c.requires.1.0 c.loop-k-test.true), subst IsBounded (sym same) (each-at IsBounded blocks c.loop-k.k d c.requires.1.1.0 c.loop-k-test.true)))

pub loop-k-init : goal.loop-k-init
loop-k-init g c = front-closed g.here.run g.here.place c.args.index c.args.past c.args.blocks.now c.requires.1.1.0

pub loop-k-preserved : goal.loop-k-preserved
loop-k-preserved g c =
    let d = c.index-blocks-k.result in
    let R = IsBlockClosed g.here.run g.here.place c.args.index in
    let same = changed-at R c.loop-k.k c.args.blocks.now c.loop-k.blocks d c.loop-k.invariant in
    let e : suc c.loop-k.k ≡ c.loop-k.k + 1 = omega arith in
    subst (λ n. AreChanged R n c.args.blocks.now (slice_set c.loop-k.blocks c.loop-k.k c.close.new.self)) e
    (changed-more R c.loop-k.k c.args.blocks.now c.loop-k.blocks d c.close.new.self c.loop-k-test.true c.loop-k.invariant (subst (λ (b : Block). R b c.close.new.self) same c.close.ensures))
