-- The entries that a map of keys stands for.
use Rattle.std.specs.Prelude.{ℕ, List, map, Vec}
use Rattle.std.specs.declared.alloc.Global.{Global}
use Rattle.hunt_tally.specs.declared.counted.Counted.{Counted}
use Rattle.hunt_tally.specs.Tallies.{Entry}

abbrev pub entry_in : Vec ℕ Global × Counted → Entry
entry_in e = record { told = record { key = e.0.items; shown = e.1.shown.items; runs = e.1.runs; first = e.1.first }; last = e.1.last }

abbrev pub entries_in : List (Vec ℕ Global × Counted) → List Entry
entries_in es = map entry_in es
