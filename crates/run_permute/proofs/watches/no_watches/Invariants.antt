use Rattle.std.proofs.Common.{◌≡◌, length}
use Rattle.run_permute.specs.SettledLists.{Each}
use Rattle.run_permute.specs.Watches.{IsFresh}
use Rattle.run_permute.proofs.watches.no_watches.Given as goal

abbrev pub invariant-loop : goal.invariant-loop
invariant-loop l = record { many : length l.watches.items ≡ l.counter; fresh : Each IsFresh l.watches.items }
