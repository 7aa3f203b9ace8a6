use Rattle.std.proofs.Common.{◌≡◌, ◌++◌, drop}
use Rattle.hunt_reports.specs.Endings.{spe_endings}
use Rattle.hunt_reports.proofs.ended.put_spes.Given as goal

abbrev pub invariant-loop-ended : goal.invariant-loop-ended
invariant-loop-ended l = record { number : l.p ≡ l.ended-index; whole : l.out.items ++ spe_endings l.p (drop l.ended-index l.spes) ≡ l.fn.out.items ++ spe_endings 0 l.spes }
