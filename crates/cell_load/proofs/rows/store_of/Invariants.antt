use Rattle.std.proofs.Common.{◌≡◌, drop, map}
use Rattle.cell_base.specs.Bytes.{zeros}
use Rattle.cell_machine.specs.Opening.{placed_in}
use Rattle.cell_load.specs.Loaded.{placed_of}
use Rattle.cell_load.specs.LoadViews.{load_of}
use Rattle.cell_load.proofs.rows.store_of.Given as goal

-- what is left to place makes of the store what all makes of zeros
abbrev pub invariant-loop-load : goal.invariant-loop-load
invariant-loop-load l = placed_in (zeros 262144) l.spe (placed_of (map load_of l.loads)) ≡ placed_in l.store l.spe (placed_of (map load_of (drop l.load-index l.loads)))
