use Rattle.std.proofs.Common.{◌≡◌, ◌++◌, map, length}
use Rattle.cell_base.specs.Words.{lines_of}
use Rattle.hunt_command.specs.Expected.{expected_of, expected_in}
use Rattle.hunt_command.proofs.expected.read_expected.Given as goal

-- what was read, in front of what is still read
abbrev pub invariant-loop-rest : goal.invariant-loop-rest
invariant-loop-rest l = map (λ v. v.items) l.expected.items ++ expected_of (lines_of l.rest) ≡ expected_in l.text

abbrev pub decreases-loop-rest : goal.decreases-loop-rest
decreases-loop-rest l = length l.rest
