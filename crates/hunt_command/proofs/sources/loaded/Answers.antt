use Rattle.std.proofs.Common.{Err}
use Rattle.cell_machine.specs.Opening.{Opening}
use Rattle.cell_load.specs.Loaded.{loaded, LoadGives}
use Rattle.cell_commands.proofs.Steps.{leads_setup, refuses_setup}
use Rattle.hunt_command.proofs.sources.loaded.Goals as goal

pub returns-in-Ok-clause-comes : goal.returns-in-Ok-clause-comes
returns-in-Ok-clause-comes c = λ files old new next. leads_setup files _ _ next c.in-Ok.ensures.exact

pub returns-in-Err-clause-comes : goal.returns-in-Err-clause-comes
returns-in-Err-clause-comes c = λ files old new next.
    let at : LoadGives {X = Opening} (λ s. s) (Err c.in-Err.error) (loaded c.args.plan c.args.images.now) = c.in-Err.ensures.exact in
    rw c.load_fault.ensures.same (refuses_setup (λ s. s) files _ next old new c.in-Err.error at)
