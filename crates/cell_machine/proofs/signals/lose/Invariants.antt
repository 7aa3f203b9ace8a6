use Rattle.std.proofs.Common.{List}
use Rattle.cell_machine.specs.Spe.{Spe}
use Rattle.cell_machine.specs.Shows.{AllTwo, ShowsSpe}
use Rattle.cell_machine.proofs.Spreading.{lost_so_far}
use Rattle.cell_machine.proofs.signals.lose.Given as goal

-- the processors below the next one have lost their reservations
abbrev pub invariant-loop-spe : goal.invariant-loop-spe
invariant-loop-spe l = (spes : List Spe) → AllTwo ShowsSpe l.fn.processors spes → AllTwo ShowsSpe l.processors (lost_so_far l.losers l.spe spes)
