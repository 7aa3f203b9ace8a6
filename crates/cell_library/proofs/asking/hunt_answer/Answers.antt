use Rattle.std.proofs.Common.{Some}
use Rattle.cell_library.proofs.AnswersLaws.{of_hunt}
use Rattle.cell_library.proofs.asking.hunt_answer.Goals as goal

pub returns : goal.returns
returns c =
    of_hunt c.args.files.items c.new-files.result.shelf c.hunt_quiet-status.new.files.shelf c.new-out.result.text.items c.new-out.result.faults
    (record { taken = Some c.hunt_quiet-status.new.out.text.items; faults = c.hunt_quiet-status.new.out.faults }) c.told_by_hunt.result c.new-files.ensures.files c.new-files.ensures.ledger c.new-out.ensures.text c.new-out.ensures.faults
    c.hunt_quiet-status.new.files.missing _ _ c.hunt_quiet-status.ensures c.told_by_hunt.ensures
