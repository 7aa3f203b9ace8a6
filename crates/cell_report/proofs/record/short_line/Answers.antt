use Rattle.std.proofs.Common.{refl}
use Rattle.std.proofs.lemmas.Fmt.{decimal_digit}
use Rattle.cell_report.proofs.record.short_line.Goals as goal

pub returns : goal.returns
returns c = rw (decimal_digit c.args.spe c.requires.spe, decimal_digit c.args.count c.requires.count) refl
