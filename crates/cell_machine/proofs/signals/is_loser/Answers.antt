use Rattle.cell_base.proofs.BitLaws.{bit-test}
use Rattle.cell_machine.proofs.signals.is_loser.Goals as goal

pub returns : goal.returns
returns c = bit-test c.args.losers c.args.spe
