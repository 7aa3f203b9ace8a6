use Rattle.std.proofs.Common.{◌≡◌, ◌-◌, length}
use Rattle.cell_base.specs.declared.steps.Actor.TheVariants.{Spu}
use Rattle.cell_host.specs.Script.{Progress}
use Rattle.cell_machine.specs.State.{State}
use Rattle.cell_machine.specs.Choices.{all_of_spus}
use Rattle.cell_machine.specs.Blocked.{AreBlocked}
use Rattle.cell_machine.specs.Shows.{Shows, AreSettled}
use Rattle.cell_machine.proofs.Choices.{from_actor}
use Rattle.cell_machine.proofs.acting.act_first_of_spus.Given as goal

-- nothing has changed but the marks, which are right, and none below has an allowed step
abbrev pub invariant-loop-spe : goal.invariant-loop-spe
invariant-loop-spe l =
    (l.processors ≡ l.fn.processors)
    × ((host : Progress) (M : State) → Shows l.processors l.memory host M → AreSettled M.spes → all_of_spus M ≡ from_actor M Spu l.spe (length M.spes - l.spe))
    × AreBlocked l.blocked l.processors

abbrev pub decreases-loop-spe : goal.decreases-loop-spe
decreases-loop-spe l = 16 - l.spe
