use Rattle.std.proofs.Common.{◌≡◌, map, take}
use Rattle.hunt_reports.specs.Coverage.{number_of}
use Rattle.hunt_reports.proofs.coverage.numbers_of.Given as goal

abbrev pub invariant-loop-instruction : goal.invariant-loop-instruction
invariant-loop-instruction l = l.numbers.items ≡ map number_of (take l.instruction-index l.executed)
