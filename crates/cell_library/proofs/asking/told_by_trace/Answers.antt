use Rattle.cell_library.proofs.AnswersLaws.{trace_told, tells}
use Rattle.cell_library.proofs.asking.told_by_trace.Goals as goal

pub returns-in-Done : goal.returns-in-Done
returns-in-Done c =
    trace_told c.args.status c.code.result _ c.new.result c.in-Done.is c.code.ensures (tells c.into_text.result c.args.out.text c.code.result c.new.result c.new.ensures c.into_text.ensures)
