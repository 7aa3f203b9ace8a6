use Rattle.std.proofs.Common.{◌≡◌, ◌≤◌, ◌+◌, ◌++◌, map, drop}
use Rattle.cell_load.specs.Entries.{entry_of}
use Rattle.cell_load.specs.Loaded.{loads_from, loads_of}
use Rattle.cell_load.specs.LoadViews.{AllTakeFit, load_of}
use Rattle.cell_load.specs.Sources.{spes_in}
use Rattle.cell_load.proofs.loads.loads_in.Given as goal

abbrev pub invariant-loop-line : goal.invariant-loop-line
invariant-loop-line l = record {
  few : l.spes + spes_in (map entry_of (drop l.line-index l.lines)) ≤ 16;
  fits : AllTakeFit (map entry_of (drop l.line-index l.lines)) l.left → AllTakeFit (map entry_of l.lines) l.images;
  so_far : map load_of l.loads.items ++ loads_from l.spes (map entry_of (drop l.line-index l.lines)) l.left ≡ loads_of (map entry_of l.lines) l.images;
}
