use Rattle.std.proofs.Common.{sym, ◌∙◌, true≢false}
use Rattle.cell_machine.proofs.AnyStep.{done-is}
use Rattle.cell_machine.proofs.acting.act_allowed.Goals as goal

pub returns-then-act-clause-made : goal.returns-then-act-clause-made
returns-then-act-clause-made c = λ M shows all. rw c.if-act.true at (c.act.ensures.made M shows all)

pub returns-else-act-clause-done : goal.returns-else-act-clause-done
returns-else-act-clause-done c = λ M shows all can. absurd (true≢false (sym (done-is M c.args.s _ _ (c.act.ensures.made M shows all) can) ∙ c.if-act.false))
