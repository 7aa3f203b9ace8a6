use Rattle.std.proofs.Common.{arith}
use Rattle.std.proofs.lemmas.Grind.{common_steps}
use Rattle.std.proofs.lemmas.Fmt.{decimal_digit}
use Rattle.cell_base.proofs.Digits.{decimal_onto}
use Rattle.cell_base.proofs.line_text.numbers.+decimal.Goals as goal

pub put_decimal-returns : goal.put_decimal-returns
put_decimal-returns t c = grind (arith, common_steps, decimal_onto, decimal_digit)
