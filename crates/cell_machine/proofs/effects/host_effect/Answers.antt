use Rattle.std.proofs.Common.{sym, ◌∙◌, ap}
use Rattle.std.specs.Prelude.{slice_get}
use Rattle.cell_host.specs.Script.{Progress}
use Rattle.cell_machine.proofs.StepEffects.{host-none, host-ended, host-some}
use Rattle.cell_machine.proofs.effects.host_effect.Goals as goal

pub returns-then-not-may_act_host : goal.returns-then-not-may_act_host
returns-then-not-may_act_host c = λ memory M shows. host-none M (sym (c.may_act_host.ensures memory M shows) ∙ c.if-not-may_act_host.true)

pub returns-in_default : goal.returns-in_default
returns-in_default c = λ memory M shows. host-ended M (ap (λ (h : Progress). slice_get h.script h.done) shows.host_is ∙ sym c.next.ensures ∙ c.in_default.is)

pub returns : goal.returns
returns c = λ memory M shows.
    host-some M c.in-Some.action _ _ _ _ (sym (c.may_act_host.ensures memory M shows) ∙ c.if-not-may_act_host.false)
    (ap (λ (h : Progress). slice_get h.script h.done) shows.host_is ∙ sym c.next.ensures ∙ c.in-Some.is) c.nowhere.ensures c.nowhere-2.ensures c.host_writes.ensures c.host_tells.ensures
