use Rattle.std.proofs.Common.{◌≡◌, ◌-◌, length}
use Rattle.cell_base.specs.declared.steps.Actor.TheVariants.{Spu}
use Rattle.cell_host.specs.Script.{Progress}
use Rattle.cell_machine.specs.declared.memory.SharedMemory.{SharedMemory}
use Rattle.cell_machine.specs.State.{State}
use Rattle.cell_machine.specs.Choices.{all_of_spus}
use Rattle.cell_machine.specs.Shows.{Shows}
use Rattle.cell_machine.proofs.Choices.{from_actor}
use Rattle.cell_machine.proofs.choosing.first_of_spus.Given as goal

-- none below has an allowed step
abbrev pub invariant-loop-spe : goal.invariant-loop-spe
invariant-loop-spe l = (memory : SharedMemory) (host : Progress) (M : State) → Shows l.processors memory host M → all_of_spus M ≡ from_actor M Spu l.spe (length M.spes - l.spe)
