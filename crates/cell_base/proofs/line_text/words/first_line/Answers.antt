use Rattle.std.proofs.Common.{sym}
use Rattle.cell_base.proofs.WordLaws.{line_then, line_last}
use Rattle.cell_base.proofs.line_text.words.first_line.Goals as goal

pub returns-in-Some-clause-line : goal.returns-in-Some-clause-line
returns-in-Some-clause-line c = line_then c.args.bytes.now c.in-Some.i (sym c.in-Some.ensures)

pub returns-in-None-clause-line : goal.returns-in-None-clause-line
returns-in-None-clause-line c = line_last c.args.bytes.now (sym c.in-None.ensures) c.requires
