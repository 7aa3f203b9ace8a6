use Rattle.std.proofs.Common.{◌≡◌, ◌+◌, suc, drop, arith, sym, ap, ◌∙◌, ◌&&◌}
use Rattle.std.specs.List.{list_all}
use Rattle.cell_machine.specs.Run.{is_quiet_spe}
use Rattle.cell_machine.specs.Shows.{ShowsSpe}
use Rattle.cell_machine.proofs.AllTwo.{two_all, two_all_end}
use Rattle.cell_machine.proofs.choosing.is_quiet.Goals as goal

pub returns-then-not-is_quiet : goal.returns-then-not-is_quiet
returns-then-not-is_quiet c = λ memory host M shows.
    let h = two_all ShowsSpe is_quiet_spe _ M.spes c.loop-processor.processor-index _ _ shows.spes (omega arith) c.processor-item.is c.is_quiet.ensures in
    sym (c.loop-processor.invariant memory host M shows ∙ h ∙ ap (λ b. b && list_all is_quiet_spe (drop (suc c.loop-processor.processor-index) M.spes)) c.if-not-is_quiet.true)

pub loop-processor-preserved : goal.loop-processor-preserved
loop-processor-preserved c = λ memory host M shows.
    let h = two_all ShowsSpe is_quiet_spe _ M.spes c.loop-processor.processor-index _ _ shows.spes (omega arith) c.processor-item.is c.is_quiet.ensures in
    let e : suc c.loop-processor.processor-index ≡ c.loop-processor.processor-index + 1 = omega arith in
    c.loop-processor.invariant memory host M shows ∙ h ∙ ap (λ b. b && list_all is_quiet_spe (drop (suc c.loop-processor.processor-index) M.spes)) c.if-not-is_quiet.false
    ∙ ap (λ k. list_all is_quiet_spe (drop k M.spes)) e

pub returns : goal.returns
returns c = λ memory host M shows. sym (c.loop-processor.invariant memory host M shows ∙ two_all_end ShowsSpe is_quiet_spe _ M.spes _ shows.spes (omega arith))
