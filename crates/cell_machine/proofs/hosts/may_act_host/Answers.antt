use Rattle.std.proofs.Common.{sym, ap, ◌∙◌}
use Rattle.std.specs.Prelude.{is_some}
use Rattle.cell_machine.proofs.Execs.{none_there}
use Rattle.cell_machine.proofs.HostSteps.{host-over, host-allowed, acted-signal, acted-send, acted-take, acted-take_intr, acted-await, acted-store}
use Rattle.cell_machine.proofs.hosts.may_act_host.Goals as goal

pub returns-in_default : goal.returns-in_default
returns-in_default c = λ memory M shows. sym (ap is_some (host-over M _ shows.host_is (sym c.next.ensures ∙ none_there c.next.result c.in_default.not-Some)))

pub returns-in-Send : goal.returns-in-Send
returns-in-Send c = λ memory M shows.
    host-allowed M _ c.in-Some.action _ shows.host_is (sym c.next.ensures ∙ c.in-Some.is)
    (c.lets_at.ensures memory _ M shows ∙ ap is_some (sym (rw c.in-Send.is (acted-send M c.in-Send.spe _))))

pub returns-in-Take : goal.returns-in-Take
returns-in-Take c = λ memory M shows.
    host-allowed M _ c.in-Some.action _ shows.host_is (sym c.next.ensures ∙ c.in-Some.is)
    (c.lets_at-in-Take.ensures memory _ M shows ∙ ap is_some (sym (rw c.in-Take.is (acted-take M c.in-Take.spe))))

pub returns-in-TakeIntr : goal.returns-in-TakeIntr
returns-in-TakeIntr c = λ memory M shows.
    host-allowed M _ c.in-Some.action _ shows.host_is (sym c.next.ensures ∙ c.in-Some.is)
    (c.lets_at-in-TakeIntr.ensures memory _ M shows ∙ ap is_some (sym (rw c.in-TakeIntr.is (acted-take_intr M c.in-TakeIntr.spe))))

pub returns-in-Await : goal.returns-in-Await
returns-in-Await c = λ memory M shows.
    host-allowed M _ c.in-Some.action _ shows.host_is (sym c.next.ensures ∙ c.in-Some.is)
    (c.lets_at-in-Await.ensures memory _ M shows ∙ ap is_some (sym (rw c.in-Await.is (acted-await M c.in-Await.spe))))

pub returns-in-Store : goal.returns-in-Store
returns-in-Store c = λ memory M shows.
    host-allowed M _ c.in-Some.action _ shows.host_is (sym c.next.ensures ∙ c.in-Some.is)
    (sym (rw c.in-Store.is (acted-store M _ _ _)))

pub returns-in-Signal : goal.returns-in-Signal
returns-in-Signal c = λ memory M shows.
    host-allowed M _ c.in-Some.action _ shows.host_is (sym c.next.ensures ∙ c.in-Some.is)
    (c.lets_at-in-Signal.ensures memory _ M shows ∙ ap is_some (sym (rw c.in-Signal.is (acted-signal M c.in-Signal.spe _ _))))
