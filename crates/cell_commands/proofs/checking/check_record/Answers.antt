use Rattle.cell_commands.proofs.Checks.{bad_record}
use Rattle.cell_commands.proofs.checking.check_record.Goals as goal

pub returns-in-Err-clause-refused : goal.returns-in-Err-clause-refused
returns-in-Err-clause-refused c = rw c.record_fault.ensures.same (bad_record c.args.setup.now c.args.text.now c.in-Err.error c.in-Err.ensures.bad_line)
