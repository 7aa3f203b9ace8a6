use Rattle.cell_hunt.proofs.LocalSteps.{registers-local, store-local}
use Rattle.cell_hunt.proofs.locals.is_local_at.Goals as goal

pub returns-in-Registers : goal.returns-in-Registers
returns-in-Registers c = registers-local c.args.machine.now c.args.spe c.in-Registers.ensures.has

pub returns-in-Store : goal.returns-in-Store
returns-in-Store c = store-local c.args.machine.now c.args.spe c.has_no_command.result c.in-Store.ensures.has c.has_no_command.ensures
