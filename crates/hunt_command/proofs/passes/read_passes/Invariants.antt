use Rattle.std.proofs.Common.{◌≡◌, ◌+◌, ◌≤◌, length}
use Rattle.cell_base.specs.Words.{lines_of}
use Rattle.cell_base.specs.Walk.{walk}
use Rattle.cell_base.proofs.WalkLaws.{with_front}
use Rattle.hunt_command.specs.Passes.{line_step, lacks, passes_at}
use Rattle.hunt_command.proofs.passes.read_passes.Given as goal

-- what was read, in front of what is still read, is all
abbrev pub invariant-loop-rest : goal.invariant-loop-rest
invariant-loop-rest l = record {
  so_far : with_front l.races.items (walk (line_step l.setup l.places) lacks l.number tt (lines_of l.rest)) ≡ passes_at l.setup l.places l.text;
  numbered : l.number + length l.rest ≤ length l.text + 1;
}

abbrev pub decreases-loop-rest : goal.decreases-loop-rest
decreases-loop-rest l = length l.rest
