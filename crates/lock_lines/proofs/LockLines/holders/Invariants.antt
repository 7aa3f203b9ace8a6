use Rattle.lock_lines.proofs.HolderLaws.{HasHoldersBelow}
use Rattle.lock_lines.proofs.LockLines.holders.Given as goal

abbrev pub invariant-loop-spe : goal.invariant-loop-spe
invariant-loop-spe l = HasHoldersBelow l.spe l.self l.line l.holders
