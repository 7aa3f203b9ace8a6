use Rattle.cell_turn.specs.Known.{Belongs}
use Rattle.cell_turn.specs.Told.{Stays}
use Rattle.library_tests.proofs.threads.try_turns.Given as goal

abbrev pub invariant-loop : goal.invariant-loop
invariant-loop g l = record {
  own : Belongs l.pass l.shared;
  stays : Stays l.initial.pass l.pass;
}
