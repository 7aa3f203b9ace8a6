use Rattle.std.proofs.Common.{◌∙◌, ap}
use Rattle.cell_base.specs.Bits.{has_bit}
use Rattle.cell_base.proofs.BitLaws.{bit-test}
use Rattle.lock_lines.specs.Reservations.{Reservations}
use Rattle.lock_lines.proofs.LockLines.is_holding.Goals as goal

pub returns : goal.returns
returns c = bit-test c.self.inside.holding c.args.spe ∙ ap (λ (x : Reservations). has_bit x.holding c.args.spe) c.self.view_is
