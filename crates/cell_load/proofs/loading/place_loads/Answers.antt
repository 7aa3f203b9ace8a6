use Rattle.std.proofs.Common.{◌≡◌, length, map, take, ap, arith}
use Rattle.cell_machine.specs.Opening.{Opening}
use Rattle.cell_machine.specs.Limits.{FitsStore}
use Rattle.cell_load.specs.Loaded.{Load, placed_of, placed_part}
use Rattle.cell_load.specs.LoadViews.{load_of}
use Rattle.cell_load.proofs.CutLemmas.{given_at, no_load}
use Rattle.cell_load.proofs.LoadLemmas.{given_more}
use Rattle.cell_load.proofs.SetupLemmas.{next_placed}
use Rattle.cell_load.proofs.loading.place_loads.Goals as goal

pub place_load-requires : goal.place_load-requires
place_load-requires c =
    let same : length c.loop-load.setup.entries ≡ length c.args.setup.now.entries = ap (λ (S : Opening). length S.entries) c.loop-load.invariant in
    rw same (given_at load_of (λ (load : Load). placed_part load.spe load.part) (FitsStore (length c.args.setup.now.entries)) c.args.loads.now c.loop-load.load-index no_load c.requires (omega arith))

pub loop-load-preserved : goal.loop-load-preserved
loop-load-preserved c =
    next_placed c.args.setup.now c.loop-load.setup _ (placed_of (map load_of (take c.loop-load.load-index c.args.loads.now))) _ _ c.loop-load.invariant c.in_ok-place_load.ensures
    (given_more load_of (λ (load : Load). placed_part load.spe load.part) c.args.loads.now c.loop-load.load-index no_load (omega arith))
