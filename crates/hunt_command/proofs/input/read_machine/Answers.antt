use Rattle.std.proofs.Common.{sym, subst}
use Rattle.hunt_command.specs.Files.{MachineRefuses}
use Rattle.hunt_command.proofs.FilesLaws.{to_run, refuses_as, stands}
use Rattle.hunt_command.proofs.input.read_machine.Goals as goal

pub returns-in-Ok-clause-comes : goal.returns-in-Ok-clause-comes
returns-in-Ok-clause-comes g c = λ told is. (stands told c.args.name.now c.in-Ok.machine.0 (c.in-Ok.ensures.comes told is to_run), c.in-Ok.ensures.places told is)

pub returns-in-Err-clause-comes : goal.returns-in-Err-clause-comes
returns-in-Err-clause-comes g c = λ told is.
    subst (MachineRefuses told c.args.name.now _ _) (sym c.fault_of.ensures.told) (refuses_as told c.args.name.now _ _ c.in-Err.fault (c.in-Err.ensures.comes told is to_run))
