use Rattle.std.proofs.Common.{◌≡◌, map}
use Rattle.cell_load.specs.Loaded.{starts_of}
use Rattle.cell_load.specs.LoadViews.{load_of}
use Rattle.cell_load.proofs.loading.add_spes.Given as goal

abbrev pub invariant-loop-spe : goal.invariant-loop-spe
invariant-loop-spe l = l.setup ≡ record l.fn.setup { entries = starts_of (map load_of l.loads) l.spe }
