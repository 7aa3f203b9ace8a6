use Rattle.std.proofs.Common.{◌≡◌, suc, ◌+◌, ◌^◌, ◌<◌, length, sym, subst, arith}
use Rattle.std.specs.Prelude.{slice_set}
use Rattle.run_permute.specs.declared.kept.Kept.{Kept}
use Rattle.run_permute.specs.SettledLists.{AreChanged}
use Rattle.run_permute.specs.Watches.{IsTaken}
use Rattle.run_permute.proofs.SettledChanges.{changed-at, changed-more}
use Rattle.run_permute.proofs.SettledEntries.{each-at}
use Rattle.run_permute.proofs.watch.take_all.Goals as goal

pub take-requires : goal.take-requires
take-requires c =
    let same = changed-at (IsTaken c.args.spe c.args.place c.args.step c.args.note) c.loop-i.i c.args.kept.now c.loop-i.kept c.index-kept-i.result c.loop-i.invariant in
    subst (λ (k : Kept). k.progress.read + 1 < 2 ^ 32) (sym same) (each-at (λ (k : Kept). k.progress.read + 1 < 2 ^ 32) c.args.kept.now c.loop-i.i c.index-kept-i.result c.requires c.loop-i-test.true)

pub loop-i-preserved : goal.loop-i-preserved
loop-i-preserved c =
    let R = IsTaken c.args.spe c.args.place c.args.step c.args.note in
    let same = changed-at R c.loop-i.i c.args.kept.now c.loop-i.kept c.index-kept-i.result c.loop-i.invariant in
    let e : suc c.loop-i.i ≡ c.loop-i.i + 1 = omega arith in
    subst (λ n. AreChanged R n c.args.kept.now (slice_set c.loop-i.kept c.loop-i.i c.take.new.self)) e
    (changed-more R c.loop-i.i c.args.kept.now c.loop-i.kept c.index-kept-i.result c.take.new.self c.loop-i-test.true c.loop-i.invariant (subst (λ (k : Kept). R k c.take.new.self) same c.in_ok-take.ensures))

pub returns : goal.returns
returns c =
    let e : c.loop-i.i ≡ length c.args.kept.now = omega (arith, c.loop-i-test.false, c.loop-i.auto.i-end) in
    subst (λ n. AreChanged (IsTaken c.args.spe c.args.place c.args.step c.args.note) n c.args.kept.now c.loop-i.kept) e c.loop-i.invariant
