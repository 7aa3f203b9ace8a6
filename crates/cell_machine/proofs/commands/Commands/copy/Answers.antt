use Rattle.std.proofs.Common.{◌≡◌, List, length, ap}
use Rattle.std.proofs.Props.{props}
use Rattle.mfc_queue.specs.declared.Queue.{Queue}
use Rattle.cell_machine.specs.declared.progress.Progress.{Progress}
use Rattle.cell_machine.specs.declared.commands.Commands.{Commands}
use Rattle.cell_machine.proofs.commands.Commands.copy.Goals as goal

-- commands are their queue and how far they have come
size_prop : (xs : List Progress) → IsProp (length xs ≡ 16)
size_prop xs = hlevel props

same : (q : Queue) (k : Commands) (places : length k.progress ≡ 16) → q ≡ k.queue → record { queue = q; progress = k.progress; places = places } ≡ k
same q k places is = rw is (ap (λ p. record k { places = p }) (size_prop k.progress places k.places))

pub returns : goal.returns
returns c = same c.copy.result c.args.self.now _ c.copy.ensures
