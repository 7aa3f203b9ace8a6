use Rattle.std.proofs.Common.{sym, true≢false, ◌∙◌}
use Rattle.cell_base.proofs.BitLaws.{bit-none}
use Rattle.cell_machine.proofs.blocked.Blocked.forget.Goals as goal

pub returns : goal.returns
returns c = λ processors p d marked at. absurd (true≢false (sym marked ∙ bit-none p))
