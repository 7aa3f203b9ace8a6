use Rattle.std.proofs.Common.{arith, sym}
use Rattle.std.proofs.lemmas.List.{length-set}
use Rattle.lock_lines.specs.Stands.{line_count}
use Rattle.cell_machine.specs.Transfers.{piece}
use Rattle.cell_machine.specs.Shows.{reservations}
use Rattle.cell_machine.proofs.AllTwo.{none-made}
use Rattle.cell_machine.proofs.Steps.{act-absent}
use Rattle.cell_machine.proofs.Controllers.{can-lines}
use Rattle.cell_machine.proofs.Ending.{piece-acts, piece-refused}
use Rattle.cell_machine.proofs.Marks.{same-but, kept-marks}
use Rattle.cell_machine.proofs.acting.act_piece.Goals as goal

pub returns-then-spe-processors-clause-made : goal.returns-then-spe-processors-clause-made
returns-then-spe-processors-clause-made c = λ host M shows all. (act-absent _ _ M c.args.spe shows (omega arith))

pub piece_step-requires-clause-can : goal.piece_step-requires-clause-can
piece_step-requires-clause-can c = let can = c.requires.can in can-lines can.lines (line_count c.args.memory.now.locks) _ (sym can.size.0) (can.each c.args.spe _ (omega arith))

pub returns-in_default-clause-made : goal.returns-in_default-clause-made
returns-in_default-clause-made c = λ host M shows all.
    (piece-refused _ _ M c.args.spe c.args.cmd c.args.elem c.args.part shows (omega arith) (λ P seen.
    none-made (piece M.memory P c.args.cmd c.args.elem c.args.part) _ (rw c.in_default.is at (c.piece_step.ensures.made P M.memory (reservations M.spes) seen shows.memory_is))))

pub spread-requires-clause-many : goal.spread-requires-clause-many
spread-requires-clause-many c = let many = c.requires.many in simp length-set (omega arith)

pub spread-requires-clause-sent : goal.spread-requires-clause-sent
spread-requires-clause-sent c = rw c.in-Some.is at c.piece_step.ensures.register

pub returns-clause-made : goal.returns-clause-made
returns-clause-made c = λ host M shows all.
    (piece-acts c.piece_step.new.memory _ _ _ _ M c.args.spe c.args.cmd c.args.elem c.args.part c.in-Some.change shows all c.requires.many (omega arith) (rw c.in-Some.is at c.piece_step.ensures.register) (λ P seen.
    rw c.in-Some.is at (c.piece_step.ensures.made P M.memory (reservations M.spes) seen shows.memory_is)) c.spread.ensures.spread)

pub returns-in_default-clause-blocked : goal.returns-in_default-clause-blocked
returns-in_default-clause-blocked c =
    let same = rw c.in_default.is at c.piece_step.ensures.refused in
    kept-marks _ _ c.args.spe _ _ same.0 c.requires.blocked

pub returns-clause-blocked : goal.returns-clause-blocked
returns-clause-blocked c = c.wake.ensures _ _ c.requires.blocked (λ is. same-but _ _ c.args.spe _ (c.spread.ensures.none (c.is_none.ensures is)))
