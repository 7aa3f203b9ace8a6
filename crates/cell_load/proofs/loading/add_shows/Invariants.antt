use Rattle.std.proofs.Common.{◌≡◌, ◌++◌, map, take}
use Rattle.std.specs.List.{filter_map}
use Rattle.cell_load.specs.Entries.{entry_of}
use Rattle.cell_load.specs.Loaded.{shown_range}
use Rattle.cell_load.proofs.loading.add_shows.Given as goal

abbrev pub invariant-loop-line : goal.invariant-loop-line
invariant-loop-line l = l.setup ≡ record l.fn.setup { shows = l.fn.setup.shows ++ filter_map shown_range (map entry_of (take l.line-index l.lines)) }
