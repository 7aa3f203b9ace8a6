use Rattle.std.proofs.Common.{arith, sym, ◌∙◌}
use Rattle.cell_machine.proofs.Steps.{act-absent, lines-exec}
use Rattle.cell_machine.proofs.Controllers.{issue-of}
use Rattle.cell_machine.proofs.Ending.{exec-acts}
use Rattle.cell_machine.proofs.Marks.{marked-refuses, set-but, tried}
use Rattle.cell_machine.proofs.acting.act_exec.Goals as goal

pub returns-then-spe-processors-clause-made : goal.returns-then-spe-processors-clause-made
returns-then-spe-processors-clause-made c = λ host M shows all. act-absent _ _ M c.args.spe shows (omega arith)

pub exec_step-made-requires-clause-number : goal.exec_step-made-requires-clause-number
exec_step-made-requires-clause-number c = issue-of c.requires.can.lines _ (c.requires.can.each c.args.spe _ (omega arith))

pub returns-clause-made : goal.returns-clause-made
returns-clause-made c = λ host M shows all.
    exec-acts _ _ _ M c.args.spe _ shows all c.requires.many (omega arith) (λ P seen.
    lines-exec M.memory _ c.lines.result P _ _ shows.memory_is.bytes c.lines.ensures.count (c.exec_step-made.ensures.made P seen))

pub returns-then-has-clause-made : goal.returns-then-has-clause-made
returns-then-has-clause-made c = λ host M shows all. marked-refuses c.args.blocked.now _ M c.args.spe shows c.requires.blocked (sym c.has.ensures ∙ c.if-has.true)

pub returns-clause-blocked : goal.returns-clause-blocked
returns-clause-blocked c =
    c.tell.ensures c.args.processors.now _ c.requires.blocked (set-but c.args.processors.now c.args.spe _)
    (λ d is at. tried c.args.processors.now c.args.spe c.exec_step-made.result _ d c.exec_step-made.ensures.blocked is at)
