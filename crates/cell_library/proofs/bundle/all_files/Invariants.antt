use Rattle.std.proofs.Common.{length}
use Rattle.cell_library.proofs.BundleLaws.{GoesOn}
use Rattle.cell_library.proofs.bundle.all_files.Given as goal

-- the files so far stand in front of those of what is left
abbrev pub invariant-loop-rest : goal.invariant-loop-rest
invariant-loop-rest l = GoesOn l.bytes l.rest l.files.items

abbrev pub decreases-loop-rest : goal.decreases-loop-rest
decreases-loop-rest l = length l.rest
