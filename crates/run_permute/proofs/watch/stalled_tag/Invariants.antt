use Rattle.std.proofs.Common.{◌≡◌, drop, None}
use Rattle.run_permute.specs.Watches.{stalled_from}
use Rattle.run_permute.proofs.watch.stalled_tag.Given as goal

-- what the rest of the commands makes of the tag is what they all make of none
abbrev pub invariant-loop-command : goal.invariant-loop-command
invariant-loop-command l = stalled_from None l.kept ≡ stalled_from l.tag (drop l.command-index l.kept)
