use Rattle.std.proofs.Common.{◌≡◌, ◌≤◌, ◌+◌, ◌++◌, map, drop}
use Rattle.cell_load.specs.Entries.{entry_of}
use Rattle.cell_load.specs.Sources.{named, sources_from, sources_of, spes_in}
use Rattle.cell_load.proofs.source.sources_in.Given as goal

abbrev pub invariant-loop-line : goal.invariant-loop-line
invariant-loop-line l = record {
  few : l.spes + spes_in (map entry_of (drop l.line-index l.lines)) ≤ 16;
  so_far : map named l.sources.items ++ sources_from l.spes (map entry_of (drop l.line-index l.lines)) ≡ sources_of (map entry_of l.lines);
}
