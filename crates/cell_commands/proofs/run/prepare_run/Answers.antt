use Rattle.cell_commands.specs.Task.{ready, run_of}
use Rattle.cell_commands.proofs.run.prepare_run.Goals as goal

pub returns-clause-comes : goal.returns-clause-comes
returns-clause-comes g c = λ told is. c.read_setup.ensures.comes told is (λ setup. ready (run_of setup))
