use Rattle.cell_library.proofs.AnswersLaws.{cell_refused}
use Rattle.cell_library.proofs.asking.refused_by_cell.Goals as goal

pub returns-in_default : goal.returns-in_default
returns-in_default c = cell_refused c.args.fault c.code.result c.refusal.result c.in_default.not-Memory c.in_default.not-WriteFault c.code.ensures c.refusal.ensures
