use Rattle.std.proofs.Common.{◌∙◌}
use Rattle.std.proofs.lemmas.Result.{err_from_is_err_and}
use Rattle.cell_commands.specs.declared.fault.FileId.TheVariants.{Rec}
use Rattle.cell_commands.specs.declared.judging.Judged.{Judged}
use Rattle.cell_commands.specs.Task.{judge, read}
use Rattle.cell_commands.specs.Answer.{AtMachineOrRecord}
use Rattle.cell_commands.specs.Forms.{record_limit}
use Rattle.cell_commands.proofs.Steps.{leads_on, refuses_then, fails_machine, fails_record, check_fails, check_comes}
use Rattle.cell_commands.proofs.check.read_run.Goals as goal

pub returns-in_err-setup-clause-cause : goal.returns-in_err-setup-clause-cause
returns-in_err-setup-clause-cause g c =
    let p = err_from_is_err_and c.from_residual.result c.from_residual.ensures.1 in
    rw (p.1, p.2) (fails_machine c.args.machine.now c.args.record_file.now _ _ _ c.in_err-setup.ensures.cause)

pub returns-in_err-setup-clause-comes : goal.returns-in_err-setup-clause-comes
returns-in_err-setup-clause-comes g c = λ told is work.
    let p = err_from_is_err_and c.from_residual.result c.from_residual.ensures.1 in
    rw (p.1, p.2) (c.in_err-setup.ensures.comes told is (λ setup. read Rec c.args.record_file.now record_limit (λ text. judge setup text work)))

pub returns-in_err-bytes-clause-cause : goal.returns-in_err-bytes-clause-cause
returns-in_err-bytes-clause-cause g c =
    let p = err_from_is_err_and c.from_residual-in_err-bytes.result c.from_residual-in_err-bytes.ensures.1 in
    rw (p.1, p.2) (fails_record c.args.machine.now c.args.record_file.now _ _ _ _ c.in_ok-setup.ensures.kept c.in_err-bytes.ensures.cause)

pub returns-in_err-bytes-clause-comes : goal.returns-in_err-bytes-clause-comes
returns-in_err-bytes-clause-comes g c = λ told is work.
    let p = err_from_is_err_and c.from_residual-in_err-bytes.result c.from_residual-in_err-bytes.ensures.1 in
    let l = c.in_ok-setup.ensures.comes told is (λ setup. read Rec c.args.record_file.now record_limit (λ text. judge setup text work)) in
    let r = c.in_err-bytes.ensures.comes told (c.read_setup.ensures.same ∙ is) (λ text. judge c.in_ok-setup.setup text work) in
    rw (p.1, p.2) (refuses_then told _ _ _ _ _ _ l c.in_ok-setup.ensures.kept r)

pub returns-clause-cause : goal.returns-clause-cause
returns-clause-cause g c = check_fails (AtMachineOrRecord c.args.machine.now c.args.record_file.now) _ _ c.in_ok-setup.setup c.as_slice.result.now c.check_record.result c.check_record.ensures.refused

pub returns-clause-comes : goal.returns-clause-comes
returns-clause-comes g c = λ told is work.
    let l = c.in_ok-setup.ensures.comes told is (λ setup. read Rec c.args.record_file.now record_limit (λ text. judge setup text work)) in
    let r = c.in_ok-bytes.ensures.comes told (c.read_setup.ensures.same ∙ is) (λ text. judge c.in_ok-setup.setup text work) in
    check_comes (λ (j : Judged). j.machine) told _ c.in_ok-setup.setup c.in_ok-bytes.bytes.items work _ _ c.check_record.result (leads_on l r) (rw c.as_slice.ensures.value at c.check_record.ensures.run) (rw c.as_slice.ensures.value at c.check_record.ensures.refused)
