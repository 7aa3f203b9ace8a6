-- What a processor knows of its queue.
use Rattle.std.specs.Prelude.{◌≡◌, ℕ, ◌≤◌, List, length, Some, slice_get}
use Rattle.mfc_command.specs.declared.command.Command.{Command}
use Rattle.mfc_command.specs.Check.{KindFits}
use Rattle.mfc_queue.specs.declared.Queue.{Queue}
use Rattle.mfc_queue.specs.Calls.{Call, issued}
use Rattle.mfc_queue.specs.Stands.{StandsFor}

-- it stands for some calls, by which at most a million commands were issued
pub record IsKept (q : Queue) : Type 0 where
  pub calls : List Call
  pub stands : StandsFor q calls
  pub numbered : length (issued calls) ≤ 1000000

-- each command lies in the store and in so many lines of memory, as its kind asks
abbrev pub MovesFit : ℕ → List Command → Type 0
MovesFit lines commands = (c : ℕ) (d : Command) → slice_get commands c ≡ Some d → KindFits lines d d.kind
