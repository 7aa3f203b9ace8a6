use Rattle.std.proofs.Common.{◌≡◌, ◌+◌, map, drop}
use Rattle.cell_load.specs.Entries.{entry_of}
use Rattle.cell_load.specs.Sources.{spes_in}
use Rattle.cell_load.proofs.loads.spes_in.Given as goal

abbrev pub invariant-loop-line : goal.invariant-loop-line
invariant-loop-line l = l.spes + spes_in (map entry_of (drop l.line-index l.lines)) ≡ spes_in (map entry_of l.lines)
