use Rattle.std.proofs.Common.{◌≡◌, ◌==◌, length, ap, arith}
use Rattle.std.proofs.lemmas.Bool.Decides.{nat_tests}
use Rattle.cell_machine.specs.Moves.{outstanding}
use Rattle.cell_machine.proofs.SpeShown.{outstanding-same, few-outstanding}
use Rattle.cell_machine.proofs.processor.Processor.is_queue_full.Goals as goal

pub returns : goal.returns
returns c = λ P shows.
    let q = shows.queue in
    let free = c.free.ensures q.calls q.stands in
    let few = few-outstanding _ q.calls q.stands in
    let same = ap length (outstanding-same q.calls P q.moves) in
    let is : (c.free.result == 0) ≡ (length (outstanding P) == 16) = grind (arith, nat_tests, free, few, same) in
    is
