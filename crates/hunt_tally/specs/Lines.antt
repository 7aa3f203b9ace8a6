-- What a line of a tally tells.
use Rattle.hunt_tally.specs.declared.tally.Line.{Line}
use Rattle.hunt_tally.specs.Tallies.{Told}

abbrev pub told_by : Line → Told
told_by line = record { key = line.key.now; shown = line.shown.now; runs = line.runs; first = line.first }
