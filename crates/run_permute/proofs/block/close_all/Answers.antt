use Rattle.std.proofs.Common.{◌≡◌, suc, ◌+◌, sym, subst, arith}
use Rattle.std.specs.Prelude.{slice_set}
use Rattle.run_permute.specs.SettledLists.{AreChanged}
use Rattle.run_permute.specs.Tracks.{IsChain, IsClosed, places}
use Rattle.run_permute.specs.declared.strand.Strand.{Strand}
use Rattle.run_permute.proofs.SettledEntries.{each-at}
use Rattle.run_permute.proofs.SettledChanges.{changed-at, changed-more}
use Rattle.run_permute.proofs.block.close_all.Goals as goal

pub close-requires : goal.close-requires
close-requires g c =
    let m = g.here.run in
    let j = g.here.place in
    let d = c.index-strands-k.result in
    let strands = c.args.strands.now in
    let same = changed-at (IsClosed m j c.args.index) c.loop-k.k strands c.loop-k.strands d c.loop-k.invariant in
    (c.requires.0, subst (λ (s : Strand). IsChain m j (places s)) (sym same) (each-at (λ (s : Strand). IsChain m j (places s)) strands c.loop-k.k d c.requires.1 c.loop-k-test.true))

pub loop-k-preserved : goal.loop-k-preserved
loop-k-preserved g c =
    let d = c.index-strands-k.result in
    let R = IsClosed g.here.run g.here.place c.args.index in
    let same = changed-at R c.loop-k.k c.args.strands.now c.loop-k.strands d c.loop-k.invariant in
    let e : suc c.loop-k.k ≡ c.loop-k.k + 1 = omega arith in
    subst (λ n. AreChanged R n c.args.strands.now (slice_set c.loop-k.strands c.loop-k.k c.close.new.self)) e
    (changed-more R c.loop-k.k c.args.strands.now c.loop-k.strands d c.close.new.self c.loop-k-test.true c.loop-k.invariant (subst (λ (s : Strand). R s c.close.new.self) same c.close.ensures))
