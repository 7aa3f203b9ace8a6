use Rattle.std.proofs.Common.{◌≡◌, map, drop}
use Rattle.cell_load.specs.Entries.{entry_of}
use Rattle.cell_load.specs.Loaded.{first_of, lines_number}
use Rattle.cell_load.proofs.loading.lines_number.Given as goal

-- what is left is all
abbrev pub invariant-loop-line : goal.invariant-loop-line
invariant-loop-line l = first_of lines_number (map entry_of l.lines) ≡ first_of lines_number (map entry_of (drop l.line-index l.lines))
