use Rattle.std.proofs.Common.{◌∙◌, ap, length, subst}
use Rattle.cell_machine.specs.Limits.{IsOpening}
use Rattle.cell_machine.specs.Run.{Ran}
use Rattle.cell_machine.proofs.AllTwo.{two_length}
use Rattle.cell_machine.proofs.Replays.{machine-state}
use Rattle.cell_machine.specs.Shows.{ShowsSpe}
use Rattle.cell_machine.proofs.machine.Machine.setup.Goals as goal

pub returns-clause-count : goal.returns-clause-count
returns-clause-count c = machine-state _ _ _ _ _ _ c.self.invariant.0 c.self.view_is (λ M shows long.
    two_length ShowsSpe _ M.spes shows.spes ∙ c.self.invariant.0.count ∙ ap (λ (n : Ran). length n.setup.entries) c.self.view_is)

pub returns-clause-opening : goal.returns-clause-opening
returns-clause-opening c = subst (λ (n : Ran). IsOpening n.setup) c.self.view_is c.self.invariant.0.setup_is
