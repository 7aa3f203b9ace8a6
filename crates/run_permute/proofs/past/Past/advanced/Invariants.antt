use Rattle.std.proofs.Common.{◌-◌, length}
use Rattle.run_permute.specs.Tracks.{IsPast}
use Rattle.run_permute.proofs.past.Past.advanced.Given as goal

abbrev pub invariant-loop-next : goal.invariant-loop-next
invariant-loop-next l = IsPast l.past l.blocks

abbrev pub decreases-loop-next : goal.decreases-loop-next
decreases-loop-next l = length l.blocks - l.past.blocks
