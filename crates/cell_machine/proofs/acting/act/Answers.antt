use Rattle.std.proofs.Common.{◌≡◌, arith, refl}
use Rattle.cell_base.specs.declared.steps.Step.TheVariants.{Elem, Retire}
use Rattle.cell_machine.specs.Memory.{lines_of}
use Rattle.cell_machine.specs.Transfers.{elem, retire}
use Rattle.cell_machine.proofs.Steps.{act-absent, lines-elem}
use Rattle.cell_machine.proofs.Controllers.{kept-of, can-lines}
use Rattle.cell_machine.proofs.Calm.{elem-same, retire-same}
use Rattle.cell_machine.proofs.Ending.{flow-acts}
use Rattle.cell_machine.proofs.Marks.{set-but}
use Rattle.cell_machine.proofs.acting.act.Goals as goal

pub returns-in-Exec-clause-made : goal.returns-in-Exec-clause-made
returns-in-Exec-clause-made c = λ M shows all. rw c.in-Exec.is (c.act_exec.ensures.made _ M shows all)

pub returns-then-spe-processors-clause-made : goal.returns-then-spe-processors-clause-made
returns-then-spe-processors-clause-made c = λ M shows all. rw c.in-Elem.is (act-absent _ _ M c.in-Elem.spe shows (omega arith))

pub elem_step-made-requires-clause-can : goal.elem_step-made-requires-clause-can
elem_step-made-requires-clause-can c =
    let can = c.requires.can in
    let long = c.args.memory.now.even in
    let size = can.size.0 in
    let count = c.lines-lines.ensures.count in
    let same : can.lines ≡ c.lines-lines.result = omega arith in
    can-lines can.lines c.lines-lines.result _ same (can.each c.in-Elem.spe _ (omega arith))

pub returns-else-spe-processors-clause-made : goal.returns-else-spe-processors-clause-made
returns-else-spe-processors-clause-made c = λ M shows all. rw c.in-Elem.is
    (flow-acts (Elem c.in-Elem.spe c.in-Elem.cmd) (λ P. elem (lines_of M.memory) P c.in-Elem.cmd) _ _ _ M c.in-Elem.spe _ shows all c.requires.many (omega arith) (λ P. refl) (λ q. refl) (λ P. elem-same (lines_of M.memory) P c.in-Elem.cmd) (λ P seen.
    lines-elem M.memory _ c.lines-lines.result c.in-Elem.cmd P _ _ shows.memory_is.bytes c.lines-lines.ensures.count (c.elem_step-made.ensures.made P seen)))

pub returns-then-spe-processors-2-clause-made : goal.returns-then-spe-processors-2-clause-made
returns-then-spe-processors-2-clause-made c = λ M shows all. rw c.in-Retire.is (act-absent _ _ M c.in-Retire.spe shows (omega arith))

pub retire_step-made-requires : goal.retire_step-made-requires
retire_step-made-requires c = kept-of c.requires.can.lines _ (c.requires.can.each c.in-Retire.spe _ (omega arith))

pub returns-else-spe-processors-2-clause-made : goal.returns-else-spe-processors-2-clause-made
returns-else-spe-processors-2-clause-made c = λ M shows all. rw c.in-Retire.is
    (flow-acts (Retire c.in-Retire.spe c.in-Retire.cmd) (λ P. retire P c.in-Retire.cmd) _ _ _ M c.in-Retire.spe _ shows all c.requires.many (omega arith) (λ P. refl) (λ q. refl) (λ P. retire-same P c.in-Retire.cmd) (λ P seen.
    c.retire_step-made.ensures.made P seen))

pub returns-in-Host-clause-made : goal.returns-in-Host-clause-made
returns-in-Host-clause-made c = λ M shows all. rw c.in-Host.is (c.act_host.ensures.made M shows all)

pub returns-in-Piece-clause-made : goal.returns-in-Piece-clause-made
returns-in-Piece-clause-made c = λ M shows all. rw c.in-Piece.is (c.act_piece.ensures.made _ M shows all)

pub returns-in-Atomic-clause-made : goal.returns-in-Atomic-clause-made
returns-in-Atomic-clause-made c = λ M shows all. rw c.in-Atomic.is (c.act_atomic.ensures.made _ M shows all)

pub returns-else-spe-processors-clause-blocked : goal.returns-else-spe-processors-clause-blocked
returns-else-spe-processors-clause-blocked c = c.wake.ensures _ _ c.requires.blocked (λ is. set-but _ c.in-Elem.spe _)

pub returns-else-spe-processors-2-clause-blocked : goal.returns-else-spe-processors-2-clause-blocked
returns-else-spe-processors-2-clause-blocked c = c.wake-in-Retire.ensures _ _ c.requires.blocked (λ is. set-but _ c.in-Retire.spe _)

pub returns-in-Host-clause-blocked : goal.returns-in-Host-clause-blocked
returns-in-Host-clause-blocked c = c.forget.ensures _
