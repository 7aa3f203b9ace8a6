use Rattle.std.proofs.Common.{sym, subst}
use Rattle.trace_commands.specs.Files.{MachineRefuses}
use Rattle.trace_commands.proofs.FilesLaws.{to_run, machine_refuses, stands}
use Rattle.trace_commands.proofs.reading.read_start.Goals as goal

pub returns-in-Err-clause-comes : goal.returns-in-Err-clause-comes
returns-in-Err-clause-comes g c = λ told is.
    subst (MachineRefuses told c.args.name.now _ _) (sym c.fault_of.ensures.told) (machine_refuses told c.args.name.now _ _ c.in-Err.fault (c.in-Err.ensures.comes told is to_run))

pub returns-in-Ok-new-clause-comes : goal.returns-in-Ok-new-clause-comes
returns-in-Ok-new-clause-comes g c = λ told is. stands told c.args.name.now c.in-Ok.setup c.in-Ok-new.machine (c.in-Ok.ensures.comes told is to_run) c.in-Ok-new.ensures
