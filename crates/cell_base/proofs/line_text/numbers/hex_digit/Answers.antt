use Rattle.std.proofs.Common.{◌∙◌, ap}
use Rattle.cell_base.specs.Numbers.{hex_digit}
use Rattle.cell_base.proofs.HexDigits.{hex_told}
use Rattle.cell_base.proofs.line_text.numbers.hex_digit.Goals as goal

pub returns-clause-value : goal.returns-clause-value
returns-clause-value c = hex_told c.from.result c.to_digit.result c.to_digit.ensures.value ∙ ap hex_digit c.from.ensures
