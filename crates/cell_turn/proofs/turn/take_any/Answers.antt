use Rattle.std.proofs.Common.{◌≡◌, sym, subst}
use Rattle.std.specs.Prelude.{None, Some}
use Rattle.cell_base.specs.declared.steps.Step.{Step}
use Rattle.cell_machine.specs.Run.{next_of, EndsAs}
use Rattle.cell_machine.proofs.Runs.{open_of}
use Rattle.cell_turn.proofs.turn.take_any.Goals as goal

pub returns-in-Some-clause-open : goal.returns-in-Some-clause-open
returns-in-Some-clause-open c = open_of c.args.machine.now c.in-Some.step c.in-Some.ensures.allowed

pub ending-requires : goal.ending-requires
ending-requires c = subst (λ m. (s : Step) → next_of m s ≡ None) (sym c.in-None.ensures.same) c.in-None.ensures.none

pub returns-in-None-clause-over : goal.returns-in-None-clause-over
returns-in-None-clause-over c = (subst (λ m. EndsAs m (Some c.ending.result)) c.in-None.ensures.same c.ending.ensures, c.in-None.ensures.same)
