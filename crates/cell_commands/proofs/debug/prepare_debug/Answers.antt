use Rattle.std.proofs.Common.{◌≡◌, ◌∙◌, List, Ok, Err}
use Rattle.std.proofs.lemmas.Result.{err_from_is_err_and}
use Rattle.cell_debug.specs.declared.line.Line.{Line}
use Rattle.cell_debug.specs.Form.{script_at}
use Rattle.cell_debug.specs.Scripts.{ScriptGives}
use Rattle.cell_commands.specs.declared.fault.FileId.TheVariants.{Script}
use Rattle.cell_commands.specs.Task.{read}
use Rattle.cell_commands.specs.Forms.{by_script, text_limit}
use Rattle.cell_commands.proofs.Steps.{leads_on, refuses_then, refuses_after, fails_before, fails_script, leads_script, refuses_script, script_comes}
use Rattle.cell_commands.proofs.debug.prepare_debug.Goals as goal

pub returns-in_err-setup-clause-cause : goal.returns-in_err-setup-clause-cause
returns-in_err-setup-clause-cause g c =
    let p = err_from_is_err_and c.from_residual.result c.from_residual.ensures.1 in
    rw (p.1, p.2) (fails_before c.args.machine.now c.args.script.now _ _ _ c.in_err-setup.ensures.cause)

pub returns-in_err-setup-clause-comes : goal.returns-in_err-setup-clause-comes
returns-in_err-setup-clause-comes g c = λ told is.
    let p = err_from_is_err_and c.from_residual.result c.from_residual.ensures.1 in
    rw (p.1, p.2) (c.in_err-setup.ensures.comes told is (λ setup. read Script c.args.script.now text_limit (λ text. by_script setup (script_at setup text))))

pub returns-in_err-bytes-clause-cause : goal.returns-in_err-bytes-clause-cause
returns-in_err-bytes-clause-cause g c =
    let p = err_from_is_err_and c.from_residual-in_err-bytes.result c.from_residual-in_err-bytes.ensures.1 in
    rw (p.1, p.2) (fails_script c.args.machine.now c.args.script.now _ _ _ _ c.in_ok-setup.ensures.kept c.in_err-bytes.ensures.cause)

pub returns-in_err-bytes-clause-comes : goal.returns-in_err-bytes-clause-comes
returns-in_err-bytes-clause-comes g c = λ told is.
    let p = err_from_is_err_and c.from_residual-in_err-bytes.result c.from_residual-in_err-bytes.ensures.1 in
    let l = c.in_ok-setup.ensures.comes told is (λ setup. read Script c.args.script.now text_limit (λ text. by_script setup (script_at setup text))) in
    let r = c.in_err-bytes.ensures.comes told (c.read_setup.ensures.same ∙ is) (λ text. by_script c.in_ok-setup.setup (script_at c.in_ok-setup.setup text)) in
    rw (p.1, p.2) (refuses_then told _ _ _ _ _ _ l c.in_ok-setup.ensures.kept r)

pub returns-in-Ok-clause-comes : goal.returns-in-Ok-clause-comes
returns-in-Ok-clause-comes g c = λ told is.
    let l = c.in_ok-setup.ensures.comes told is (λ setup. read Script c.args.script.now text_limit (λ text. by_script setup (script_at setup text))) in
    let r = c.in_ok-bytes.ensures.comes told (c.read_setup.ensures.same ∙ is) (λ text. by_script c.in_ok-setup.setup (script_at c.in_ok-setup.setup text)) in
    let e : script_at c.in_ok-setup.setup c.in_ok-bytes.bytes.items ≡ Ok c.in-Ok.script = rw c.as_slice.ensures.value at c.in-Ok.ensures.exact in
    script_comes (λ text. text.items) told _ _ _ _ c.printed.result (leads_on (leads_on l r) (leads_script told c.in_ok-setup.setup _ c.in-Ok.script e)) c.printed.ensures.text c.printed.ensures.memory

pub returns-in-Err-clause-comes : goal.returns-in-Err-clause-comes
returns-in-Err-clause-comes g c = λ told is.
    let l = c.in_ok-setup.ensures.comes told is (λ setup. read Script c.args.script.now text_limit (λ text. by_script setup (script_at setup text))) in
    let r = c.in_ok-bytes.ensures.comes told (c.read_setup.ensures.same ∙ is) (λ text. by_script c.in_ok-setup.setup (script_at c.in_ok-setup.setup text)) in
    let at : ScriptGives {X = List Line} (λ s. s) (Err c.in-Err.error) (script_at c.in_ok-setup.setup c.in_ok-bytes.bytes.items) = rw c.as_slice.ensures.value at c.in-Err.ensures.exact in
    rw c.script_fault.ensures.same (refuses_after told _ _ _ _ _ (leads_on l r) (refuses_script (λ s. s) told c.in_ok-setup.setup _ _ _ c.in-Err.error at))
