use Rattle.std.specs.Prelude.{suc, ◌*◌}
use Rattle.cell_base.proofs.line_text.numbers.+decimal.Given as goal

abbrev pub decreases-put_decimal : goal.decreases-put_decimal
decreases-put_decimal l = 2 * l.n

-- it calls put_decimal with the same number
abbrev pub decreases-put_leading : goal.decreases-put_leading
decreases-put_leading l = suc (2 * l.n)
