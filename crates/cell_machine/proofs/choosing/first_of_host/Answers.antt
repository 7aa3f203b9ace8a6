use Rattle.std.proofs.Common.{sym, ap}
use Rattle.std.specs.Prelude.{slice_get}
use Rattle.cell_machine.proofs.Choices.{allowed-host, allowed-no_host}
use Rattle.cell_machine.proofs.choosing.first_of_host.Goals as goal

pub returns-then-may_act_host : goal.returns-then-may_act_host
returns-then-may_act_host c = λ memory M shows. sym (ap (λ xs. slice_get xs 0) (allowed-host M _ (c.may_act_host.ensures memory M shows) c.if-may_act_host.true))

pub returns-else-may_act_host : goal.returns-else-may_act_host
returns-else-may_act_host c = λ memory M shows. sym (ap (λ xs. slice_get xs 0) (allowed-no_host M _ (c.may_act_host.ensures memory M shows) c.if-may_act_host.false))
