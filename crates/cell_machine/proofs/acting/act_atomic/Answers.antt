use Rattle.std.proofs.Common.{◌≡◌, arith, sym}
use Rattle.std.proofs.lemmas.Bool.Decides.{nat_tests}
use Rattle.std.proofs.lemmas.List.{length-set}
use Rattle.lock_lines.specs.Stands.{line_count}
use Rattle.cell_machine.specs.Atomic.{atomic}
use Rattle.cell_machine.specs.Shows.{reservations}
use Rattle.cell_machine.proofs.AllTwo.{none-made}
use Rattle.cell_machine.proofs.Steps.{act-absent, reserved-at}
use Rattle.cell_machine.proofs.Controllers.{can-lines}
use Rattle.cell_machine.proofs.Ending.{atomic-acts, atomic-refused}
use Rattle.cell_machine.proofs.Marks.{same-but, kept-marks}
use Rattle.cell_machine.proofs.acting.act_atomic.Goals as goal

pub returns-then-spe-processors-clause-made : goal.returns-then-spe-processors-clause-made
returns-then-spe-processors-clause-made c = λ host M shows all. (act-absent _ _ M c.args.spe shows (omega arith))

pub atomic_step-requires-clause-can : goal.atomic_step-requires-clause-can
atomic_step-requires-clause-can c = let can = c.requires.can in can-lines can.lines (line_count c.args.memory.now.locks) _ (sym can.size.0) (can.each c.args.spe _ (omega arith))

pub atomic_step-requires-clause-spe : goal.atomic_step-requires-clause-spe
atomic_step-requires-clause-spe c = let size = c.requires.can.size.1 in omega arith

pub returns-in_default-clause-made : goal.returns-in_default-clause-made
returns-in_default-clause-made c = λ host M shows all.
    (atomic-refused _ _ M c.args.spe shows (omega arith) (λ P at seen.
    none-made (atomic M.memory P) _ (rw c.in_default.is at (c.atomic_step.ensures.made P M.memory (reservations M.spes) seen shows.memory_is (reserved-at M.spes c.args.spe P at)))))

pub lose-requires : goal.lose-requires
lose-requires c = let many = c.requires.many in simp length-set (omega arith)

pub returns-clause-made : goal.returns-clause-made
returns-clause-made c = λ host M shows all.
    (atomic-acts c.atomic_step.new.memory _ _ _ _ M c.args.spe c.in-Some.losers shows all c.requires.many (omega arith) (λ P at seen.
    rw c.in-Some.is at (c.atomic_step.ensures.made P M.memory (reservations M.spes) seen shows.memory_is (reserved-at M.spes c.args.spe P at))) c.lose.ensures.lost)

pub returns-in_default-clause-blocked : goal.returns-in_default-clause-blocked
returns-in_default-clause-blocked c =
    let same = rw c.in_default.is at c.atomic_step.ensures.refused in
    kept-marks _ _ c.args.spe _ _ same.0 c.requires.blocked

pub returns-clause-blocked : goal.returns-clause-blocked
returns-clause-blocked c = c.wake.ensures _ _ c.requires.blocked (λ is.
    let none : c.in-Some.losers ≡ 0 = grind (arith, nat_tests) in
    same-but _ _ c.args.spe _ (c.lose.ensures.none none))
