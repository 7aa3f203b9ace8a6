use Rattle.std.proofs.Common.{sym, ◌∙◌}
use Rattle.cell_hunt.proofs.Determined.{local_allowed}
use Rattle.cell_hunt.proofs.locals.local_instruction.Goals as goal

pub returns-then-is_local_at-clause-allowed : goal.returns-then-is_local_at-clause-allowed
returns-then-is_local_at-clause-allowed c = local_allowed c.args.machine.now c.args.spe (sym c.is_local_at.ensures ∙ c.if-is_local_at.true)
