use Rattle.cell_load.proofs.SetupLemmas.{added_spe}
use Rattle.cell_load.proofs.loading.add_spe.Goals as goal

pub returns : goal.returns
returns c = added_spe c.args.setup.now c.add_spe.new.self c.set_entry.new.self c.in-Ok.spe c.args.at c.in-Ok.ensures.number c.in-Ok.ensures.added c.in_default.ensures.set
