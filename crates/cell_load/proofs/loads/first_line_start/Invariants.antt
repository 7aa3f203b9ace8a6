use Rattle.std.proofs.Common.{◌≡◌, map, drop}
use Rattle.cell_load.specs.Loaded.{first_of, for_spe, line_start}
use Rattle.cell_load.specs.LoadViews.{load_of}
use Rattle.cell_load.proofs.loads.first_line_start.Given as goal

-- what is left is all
abbrev pub invariant-loop-load : goal.invariant-loop-load
invariant-loop-load l = first_of (for_spe l.spe line_start) (map load_of l.loads) ≡ first_of (for_spe l.spe line_start) (map load_of (drop l.load-index l.loads))
