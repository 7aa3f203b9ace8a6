use Rattle.std.proofs.Common.{◌≡◌, fold, map, take}
use Rattle.std.specs.List.{filter_map}
use Rattle.cell_load.specs.Entries.{entry_of}
use Rattle.cell_load.specs.Loaded.{or_register, with_register}
use Rattle.cell_load.proofs.loading.set_modes.Given as goal

abbrev pub invariant-loop-line : goal.invariant-loop-line
invariant-loop-line l = l.setup ≡ record l.fn.setup { or_modes = fold with_register l.fn.setup.or_modes (filter_map or_register (map entry_of (take l.line-index l.lines))) }
