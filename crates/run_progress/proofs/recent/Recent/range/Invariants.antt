use Rattle.std.proofs.Common.{◌≡◌, take}
use Rattle.std.specs.Prelude.{fold, min, max}
use Rattle.run_progress.proofs.recent.Recent.range.Given as goal

abbrev pub invariant-loop-i : goal.invariant-loop-i
invariant-loop-i l =
    record {
      least : l.least ≡ fold min l.first (take l.i l.self.addresses.items);
      greatest : l.greatest ≡ fold max l.first (take l.i l.self.addresses.items);
    }
