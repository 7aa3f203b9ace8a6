use Rattle.std.proofs.Common.{arith}
use Rattle.std.proofs.lemmas.Grind.{common_steps}
use Rattle.cell_base.proofs.HexLemmas.{hex_none, hex_last}
use Rattle.cell_base.proofs.line_text.hex.+put_hex.Goals as goal

pub returns-then-width-eq0 : goal.returns-then-width-eq0
returns-then-width-eq0 t c = hex_none c.args.out.now.items c.args.width c.args.n c.if-width-eq0.true

pub returns : goal.returns
returns t c = grind (arith, common_steps, hex_last)
