use Rattle.std.proofs.Common.{◌≡◌, ◌++◌, map, take}
use Rattle.std.specs.List.{filter_map}
use Rattle.cell_load.specs.Entries.{entry_of}
use Rattle.cell_load.specs.Loaded.{host_action}
use Rattle.cell_load.proofs.loading.add_actions.Given as goal

abbrev pub invariant-loop-line : goal.invariant-loop-line
invariant-loop-line l = l.setup ≡ record l.fn.setup { actions = l.fn.setup.actions ++ filter_map host_action (map entry_of (take l.line-index l.lines)) }
