use Rattle.std.proofs.Common.{◌≡◌, arith, sym, ap, ◌∙◌}
use Rattle.std.specs.Option.{option_map, option_and_then}
use Rattle.std.specs.Prelude.{Some}
use Rattle.lock_lines.specs.Stands.{line_count}
use Rattle.cell_machine.specs.Exec.{exec}
use Rattle.cell_machine.specs.Transfers.{elem, piece}
use Rattle.cell_machine.specs.Effects.{effect_of, exec_effect, piece_effect, elem_effect, of_command}
use Rattle.cell_machine.specs.Shows.{ShowsSpe, reservations}
use Rattle.cell_machine.proofs.AllTwo.{two_length}
use Rattle.cell_machine.proofs.Steps.{reserved-at, lines-is}
use Rattle.cell_machine.proofs.Controllers.{kept-of, issue-of, can-lines}
use Rattle.cell_machine.proofs.StepEffects.{effect-at, effect-absent}
use Rattle.cell_machine.proofs.effects.effect_of.Goals as goal

pub returns-then-spe-processors : goal.returns-then-spe-processors
unfolding effect_of
returns-then-spe-processors c = λ M shows. rw c.in-Exec.is (effect-absent _ M c.in-Exec.spe _ shows (omega arith))

pub exec_effect-requires-clause-number : goal.exec_effect-requires-clause-number
exec_effect-requires-clause-number c = rw c.index-processors-spe.is (issue-of c.requires.lines _ (c.requires.each c.in-Exec.spe _ (omega arith)))

pub returns-else-spe-processors : goal.returns-else-spe-processors
unfolding effect_of
returns-else-spe-processors c = λ M shows. rw c.in-Exec.is
    (effect-at _ M c.in-Exec.spe _ _ _ shows (omega arith) c.index-processors-spe.is (λ P at seen.
    c.exec_effect.ensures P seen ∙ ap (λ lines. option_map (exec_effect c.in-Exec.spe P) (exec lines P)) (sym (lines-is M.memory _ c.lines-lines.result shows.memory_is.bytes c.lines-lines.ensures.count))))

pub returns-then-spe-processors-2 : goal.returns-then-spe-processors-2
unfolding effect_of
returns-then-spe-processors-2 c = λ M shows. rw c.in-Piece.is (effect-absent _ M c.in-Piece.spe _ shows (omega arith))

pub piece_effect-requires : goal.piece_effect-requires
piece_effect-requires c =
    let can = c.requires in
    let long = c.args.memory.now.even in
    let size = can.size.0 in
    let count = c.lines-lines.ensures.count in
    (can.lines, rw c.index-processors-spe-in-Piece.is (can.each c.in-Piece.spe _ (omega arith)), omega arith)

pub returns-else-spe-processors-2 : goal.returns-else-spe-processors-2
unfolding effect_of
returns-else-spe-processors-2 c = λ M shows. rw c.in-Piece.is
    (effect-at _ M c.in-Piece.spe _ _ _ shows (omega arith) c.index-processors-spe-in-Piece.is (λ P at seen. c.piece_effect.ensures P M.memory seen
    ∙ ap (λ n. option_and_then (λ x. of_command P c.in-Piece.cmd (piece_effect n c.in-Piece.spe c.in-Piece.cmd c.in-Piece.part P x)) (piece M.memory P c.in-Piece.cmd c.in-Piece.elem c.in-Piece.part)) (sym (two_length ShowsSpe _ M.spes shows.spes))))

pub returns-then-spe-processors-3 : goal.returns-then-spe-processors-3
unfolding effect_of
returns-then-spe-processors-3 c = λ M shows. rw c.in-Elem.is (effect-absent _ M c.in-Elem.spe _ shows (omega arith))

pub elem_effect-requires-clause-can : goal.elem_effect-requires-clause-can
elem_effect-requires-clause-can c =
    let can = c.requires in
    let long = c.args.memory.now.even in
    let size = can.size.0 in
    let count = c.lines-lines.ensures.count in
    let same : can.lines ≡ c.lines-lines.result = omega arith in
    rw c.index-processors-spe-in-Elem.is (can-lines can.lines c.lines-lines.result _ same (can.each c.in-Elem.spe _ (omega arith)))

pub returns-else-spe-processors-3 : goal.returns-else-spe-processors-3
unfolding effect_of
returns-else-spe-processors-3 c = λ M shows. rw c.in-Elem.is
    (effect-at _ M c.in-Elem.spe _ _ _ shows (omega arith) c.index-processors-spe-in-Elem.is (λ P at seen.
    c.elem_effect.ensures P seen
    ∙ ap (λ lines. option_and_then (λ Q. of_command P c.in-Elem.cmd (λ d. Some (elem_effect lines c.in-Elem.spe c.in-Elem.cmd P Q d))) (elem lines P c.in-Elem.cmd)) (sym (lines-is M.memory _ c.lines-lines.result shows.memory_is.bytes c.lines-lines.ensures.count))))

pub returns-then-spe-processors-4 : goal.returns-then-spe-processors-4
unfolding effect_of
returns-then-spe-processors-4 c = λ M shows. rw c.in-Retire.is (effect-absent _ M c.in-Retire.spe _ shows (omega arith))

pub retire_effect-requires : goal.retire_effect-requires
retire_effect-requires c = rw c.index-processors-spe-in-Retire.is (kept-of c.requires.lines _ (c.requires.each c.in-Retire.spe _ (omega arith)))

pub returns-else-spe-processors-4 : goal.returns-else-spe-processors-4
unfolding effect_of
returns-else-spe-processors-4 c = λ M shows. rw c.in-Retire.is
    (effect-at _ M c.in-Retire.spe _ _ _ shows (omega arith) c.index-processors-spe-in-Retire.is (λ P at seen. c.retire_effect.ensures P seen))

pub returns-then-spe-processors-5 : goal.returns-then-spe-processors-5
unfolding effect_of
returns-then-spe-processors-5 c = λ M shows. rw c.in-Atomic.is (effect-absent _ M c.in-Atomic.spe _ shows (omega arith))

pub atomic_effect-requires-clause-can : goal.atomic_effect-requires-clause-can
atomic_effect-requires-clause-can c = let can = c.requires in rw c.index-processors-spe-in-Atomic.is (can-lines can.lines (line_count c.args.memory.now.locks) _ (sym can.size.0) (can.each c.in-Atomic.spe _ (omega arith)))

pub atomic_effect-requires-clause-spe : goal.atomic_effect-requires-clause-spe
atomic_effect-requires-clause-spe c = let size = c.requires.size.1 in omega arith

pub returns-else-spe-processors-5 : goal.returns-else-spe-processors-5
unfolding effect_of
returns-else-spe-processors-5 c = λ M shows. rw c.in-Atomic.is
    (effect-at _ M c.in-Atomic.spe _ _ _ shows (omega arith) c.index-processors-spe-in-Atomic.is (λ P at seen.
    c.atomic_effect.ensures P M.memory (reservations M.spes) seen shows.memory_is (reserved-at M.spes c.in-Atomic.spe P at)))

pub returns-in-Host : goal.returns-in-Host
returns-in-Host c = λ M shows. rw c.in-Host.is (c.host_effect.ensures _ M shows)
