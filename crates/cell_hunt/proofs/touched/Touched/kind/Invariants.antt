use Rattle.std.proofs.Common.{◌≡◌, ◌-◌, drop}
use Rattle.std.specs.Prelude.{fold}
use Rattle.cell_hunt.specs.Kinds.{digest}
use Rattle.cell_hunt.specs.Mixing.{with_number}
use Rattle.cell_hunt.specs.Touched.{touched_from}
use Rattle.cell_hunt.proofs.touched.Touched.kind.Given as goal

abbrev pub invariant-loop-from : goal.invariant-loop-from
invariant-loop-from l = fold with_number l.digest (touched_from l.from (drop l.from l.self.digests)) ≡ digest (touched_from 0 l.self.digests)

abbrev pub decreases-loop-from : goal.decreases-loop-from
decreases-loop-from l = l.count - l.from
