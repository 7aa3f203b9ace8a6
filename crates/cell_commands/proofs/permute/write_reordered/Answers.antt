use Rattle.std.proofs.Common.{refl}
use Rattle.cell_commands.specs.Task.{reordering_of}
use Rattle.cell_commands.proofs.Reordered.{prints_reordering, refused_reordering}
use Rattle.cell_commands.proofs.permute.write_reordered.Goals as goal

pub returns-in-Ok-clause-ends : goal.returns-in-Ok-clause-ends
returns-in-Ok-clause-ends g c =
    c.write_run.ensures.ends (reordering_of c.args.machine.now c.args.n)
    (λ text p. prints_reordering c.args.machine.now c.args.n c.in-Ok.again text c.steps-run.ensures.run c.requires.accepted c.in-Ok.ensures.settled c.in-Ok.ensures.reordered c.in-Ok.ensures.ends p)

pub returns-in-Err-clause-ends : goal.returns-in-Err-clause-ends
returns-in-Err-clause-ends g c = refused_reordering c.args.machine.now c.args.n _ _ c.in-Err.fault c.requires.accepted c.in-Err.ensures.refused refl
