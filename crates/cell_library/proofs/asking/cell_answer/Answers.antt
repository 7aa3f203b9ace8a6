use Rattle.std.proofs.Common.{Some}
use Rattle.cell_library.proofs.AnswersLaws.{of_cell}
use Rattle.cell_library.proofs.asking.cell_answer.Goals as goal

pub returns : goal.returns
returns c =
    of_cell c.args.files.items c.new-files.result.shelf c.cell_quiet-status.new.files.shelf c.new-out.result.text.items c.new-out.result.faults
    (record { taken = Some c.cell_quiet-status.new.out.text.items; faults = c.cell_quiet-status.new.out.faults }) c.told_by_cell.result c.new-files.ensures.files c.new-files.ensures.ledger c.new-out.ensures.text c.new-out.ensures.faults
    c.cell_quiet-status.new.files.missing _ _ c.cell_quiet-status.ensures c.told_by_cell.ensures
