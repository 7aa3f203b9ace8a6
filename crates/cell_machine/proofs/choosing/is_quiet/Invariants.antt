use Rattle.std.proofs.Common.{◌≡◌, drop}
use Rattle.cell_host.specs.Script.{Progress}
use Rattle.std.specs.List.{list_all}
use Rattle.cell_machine.specs.declared.memory.SharedMemory.{SharedMemory}
use Rattle.cell_machine.specs.State.{State}
use Rattle.cell_machine.specs.Shows.{Shows}
use Rattle.cell_machine.specs.Run.{is_quiet, is_quiet_spe}
use Rattle.cell_machine.proofs.choosing.is_quiet.Given as goal

-- the processors so far are quiet
abbrev pub invariant-loop-processor : goal.invariant-loop-processor
invariant-loop-processor l = (memory : SharedMemory) (host : Progress) (M : State) → Shows l.processors memory host M → is_quiet M ≡ list_all is_quiet_spe (drop l.processor-index M.spes)
