use Rattle.std.proofs.Common.{◌≡◌, ◌%◌, length, arith, sym, ◌∙◌}
use Rattle.std.specs.Prelude.{slice_get}
use Rattle.cell_machine.proofs.Choices.{next-exec, allowed-spu, allowed-no_spu, allowed-no_mfc, mfc-says, pick_one, pick_none, pick-host, allowed-absent}
use Rattle.cell_machine.proofs.choosing.nth_step.Goals as goal

pub returns-then-spe-processors-2 : goal.returns-then-spe-processors-2
returns-then-spe-processors-2 c = λ memory M shows. rw c.in-Mfc.is (sym (pick_none _ _ (allowed-no_mfc _ M c.in-Mfc.spe shows (omega arith))))

pub returns-else-spe-processors-2 : goal.returns-else-spe-processors-2
returns-else-spe-processors-2 c = λ memory M shows. rw c.in-Mfc.is
    (mfc-says _ M c.in-Mfc.spe _ (λ xs. c.pick_of_mfc.result ≡ slice_get xs (c.args.choice % length xs)) shows (omega arith) c.index-processors-spe-in-Mfc.is c.pick_of_mfc.ensures)

pub returns-in-Host : goal.returns-in-Host
returns-in-Host c = λ memory M shows. rw c.in-Host.is (pick-host M c.args.choice _ (c.first_of_host.ensures memory M shows))

pub returns-then-spe-processors : goal.returns-then-spe-processors
returns-then-spe-processors c = λ memory M shows. rw c.in-Spu.is (sym (pick_none _ _ (allowed-absent _ M c.in-Spu.spe shows (omega arith))))

pub returns-then-may_exec : goal.returns-then-may_exec
returns-then-may_exec c = λ memory M shows.
    rw c.in-Spu.is (sym (pick_one _ _ c.args.choice (allowed-spu M c.in-Spu.spe (next-exec _ M c.in-Spu.spe _ _ shows (omega arith) c.index-processors-spe.is c.may_exec.ensures ∙ c.if-may_exec.true))))

pub returns-else-may_exec : goal.returns-else-may_exec
returns-else-may_exec c = λ memory M shows.
    rw c.in-Spu.is (sym (pick_none _ _ (allowed-no_spu M c.in-Spu.spe (next-exec _ M c.in-Spu.spe _ _ shows (omega arith) c.index-processors-spe.is c.may_exec.ensures ∙ c.if-may_exec.false))))

pub pick_of_mfc-requires : goal.pick_of_mfc-requires
pick_of_mfc-requires c = rw c.index-processors-spe-in-Mfc.is (c.requires c.in-Mfc.spe _ (omega arith))
