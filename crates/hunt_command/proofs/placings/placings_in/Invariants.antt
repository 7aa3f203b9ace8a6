use Rattle.std.proofs.Common.{◌≡◌, ◌≤◌, ◌+◌, ◌++◌, length}
use Rattle.cell_base.specs.Words.{lines_of}
use Rattle.hunt_command.specs.Placings.{placings_from, placings_in}
use Rattle.hunt_command.proofs.placings.placings_in.Given as goal

abbrev pub invariant-loop-rest : goal.invariant-loop-rest
invariant-loop-rest l = record {
  spes : l.counts.spes + length l.rest ≤ length l.text;
  sources : l.counts.sources + length l.rest ≤ length l.text;
  -- what was placed, in front of what the rest places
  so_far : l.placings.items ++ placings_from l.counts.spes l.counts.sources (lines_of l.rest) ≡ placings_in l.text;
}

abbrev pub decreases-loop-rest : goal.decreases-loop-rest
decreases-loop-rest l = length l.rest
