use Rattle.std.proofs.Common.{Some}
use Rattle.cell_library.proofs.AnswersLaws.{of_trace}
use Rattle.cell_library.proofs.asking.trace_answer.Goals as goal

pub returns : goal.returns
returns c =
    of_trace c.args.files.items c.new-files.result.shelf c.trace_form-status.new.files.shelf c.new-out.result.text.items c.new-out.result.faults
    (record { taken = Some c.trace_form-status.new.out.text.items; faults = c.trace_form-status.new.out.faults }) c.told_by_trace.result c.new-files.ensures.files c.new-files.ensures.ledger c.new-out.ensures.text c.new-out.ensures.faults
    c.trace_form-status.new.files.missing _ _ c.trace_form-status.ensures c.told_by_trace.ensures
