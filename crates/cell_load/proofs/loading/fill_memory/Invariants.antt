use Rattle.std.proofs.Common.{◌≡◌, ◌++◌, map, take}
use Rattle.std.specs.List.{filter_map}
use Rattle.cell_load.specs.Entries.{entry_of}
use Rattle.cell_load.specs.Loaded.{memory_piece}
use Rattle.cell_load.proofs.loading.fill_memory.Given as goal

abbrev pub invariant-loop-line : goal.invariant-loop-line
invariant-loop-line l = l.setup ≡ record l.fn.setup { memory = l.fn.setup.memory ++ filter_map memory_piece (map entry_of (take l.line-index l.lines)) }
