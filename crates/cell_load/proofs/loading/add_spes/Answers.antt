use Rattle.std.proofs.Common.{◌≡◌, ◌<◌, ◌%◌, length, map, ap, ◌∙◌, arith}
use Rattle.cell_machine.specs.Opening.{Opening}
use Rattle.cell_load.specs.LoadViews.{load_of}
use Rattle.cell_load.proofs.SetupLemmas.{next_start, start_at, starts-length}
use Rattle.cell_load.proofs.loading.add_spes.Goals as goal

pub add_spe-requires-clause-room : goal.add_spe-requires-clause-room
add_spe-requires-clause-room c =
    let long : length c.loop-spe.setup.entries ≡ c.loop-spe.spe = ap (λ (S : Opening). length S.entries) c.loop-spe.invariant ∙ starts-length (map load_of c.args.loads.now) c.loop-spe.spe in
    let few = c.requires.few in
    omega (arith, long, few)

pub add_spe-requires-clause-place : goal.add_spe-requires-clause-place
add_spe-requires-clause-place c =
    rw c.start_of.ensures (start_at (λ at. (at < 262144) × (at % 4 ≡ 0)) (map load_of c.args.loads.now) c.args.spes c.loop-spe.spe c.requires.places (omega arith))

pub loop-spe-preserved : goal.loop-spe-preserved
loop-spe-preserved c =
    next_start c.args.setup.now c.loop-spe.setup _ (map load_of c.args.loads.now) c.loop-spe.spe c.loop-spe.invariant (rw c.start_of.ensures at c.in_ok-add_spe.ensures)
