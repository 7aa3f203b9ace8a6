use Rattle.cell_library.proofs.AnswersLaws.{cell_told, tells}
use Rattle.cell_library.proofs.asking.told_by_cell.Goals as goal

pub returns-in_default : goal.returns-in_default
returns-in_default c =
    cell_told c.args.status c.code.result _ c.new.result c.in_default.not-Refused c.code.ensures (tells c.into_text.result c.args.out.text c.code.result c.new.result c.new.ensures c.into_text.ensures)
