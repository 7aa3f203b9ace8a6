use Rattle.std.proofs.Common.{◌≡◌, ℕ, suc, ◌+◌, ◌<◌, length, sym, subst, arith}
use Rattle.std.specs.Prelude.{slice_set}
use Rattle.run_permute.specs.declared.kept.Kept.{Kept}
use Rattle.run_permute.specs.SettledLists.{AreChanged, IsIn}
use Rattle.run_permute.specs.Watches.{IsSwept}
use Rattle.run_permute.proofs.SettledChanges.{changed-at, changed-more}
use Rattle.run_permute.proofs.SettledEntries.{each-at}
use Rattle.run_permute.proofs.watch.sweep_all.Goals as goal

pub sweep-requires : goal.sweep-requires
sweep-requires g c =
    let same = changed-at (IsSwept g.here.run g.here.place) c.loop-i.i c.args.kept.now c.loop-i.kept c.index-kept-i.result c.loop-i.invariant in (
      c.requires.0,
      subst (λ (k : Kept). (i : ℕ) → IsIn i k.steps.items → i < g.here.place) (sym same)
          (each-at (λ (k : Kept). (i : ℕ) → IsIn i k.steps.items → i < g.here.place) c.args.kept.now c.loop-i.i c.index-kept-i.result c.requires.1 c.loop-i-test.true),
    )

pub loop-i-preserved : goal.loop-i-preserved
loop-i-preserved g c =
    let R = IsSwept g.here.run g.here.place in
    let same = changed-at R c.loop-i.i c.args.kept.now c.loop-i.kept c.index-kept-i.result c.loop-i.invariant in
    let e : suc c.loop-i.i ≡ c.loop-i.i + 1 = omega arith in
    subst (λ n. AreChanged R n c.args.kept.now (slice_set c.loop-i.kept c.loop-i.i c.sweep.new.self)) e
    (changed-more R c.loop-i.i c.args.kept.now c.loop-i.kept c.index-kept-i.result c.sweep.new.self c.loop-i-test.true c.loop-i.invariant (subst (λ (k : Kept). R k c.sweep.new.self) same c.sweep.ensures))

pub returns : goal.returns
returns g c =
    let e : c.loop-i.i ≡ length c.args.kept.now = omega (arith, c.loop-i-test.false, c.loop-i.auto.i-end) in
    subst (λ n. AreChanged (IsSwept g.here.run g.here.place) n c.args.kept.now c.loop-i.kept) e c.loop-i.invariant
