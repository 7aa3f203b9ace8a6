use Rattle.std.proofs.Common.{◌≡◌, ◌++◌, map, take}
use Rattle.cell_load.specs.Loaded.{placed_of}
use Rattle.cell_load.specs.LoadViews.{load_of}
use Rattle.cell_load.proofs.loading.place_loads.Given as goal

abbrev pub invariant-loop-load : goal.invariant-loop-load
invariant-loop-load l = l.setup ≡ record l.fn.setup { placed = l.fn.setup.placed ++ placed_of (map load_of (take l.load-index l.loads)) }
