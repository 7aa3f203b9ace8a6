use Rattle.mfc_queue.specs.Stands.{IsKnown}
use Rattle.library_tests.proofs.queue.answers_as_a_plain_queue.Given as goal

abbrev pub invariant-loop : goal.invariant-loop
invariant-loop g l = IsKnown l.queue
