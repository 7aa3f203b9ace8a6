use Rattle.cell_base.proofs.BitLaws.{bit-test}
use Rattle.cell_machine.proofs.blocked.Blocked.has.Goals as goal

pub returns : goal.returns
returns c = bit-test c.args.self.now.bits c.args.spe
