use Rattle.cell_library.proofs.AnswersLaws.{trace_refused}
use Rattle.cell_library.proofs.asking.refused_by_trace.Goals as goal

pub returns-in_default : goal.returns-in_default
returns-in_default c = trace_refused c.args.fault c.code.result c.refusal.result c.in_default.not-Memory c.in_default.not-WriteFault c.code.ensures c.refusal.ensures
