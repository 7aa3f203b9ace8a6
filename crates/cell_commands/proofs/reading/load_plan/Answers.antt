use Rattle.std.proofs.Common.{◌≡◌, Ok, Err}
use Rattle.std.proofs.lemmas.Result.{err_from_is_err_and}
use Rattle.cell_machine.specs.Opening.{Opening}
use Rattle.cell_load.specs.Loaded.{loaded, LoadGives}
use Rattle.cell_commands.specs.Forms.{with_setup}
use Rattle.cell_commands.proofs.Steps.{leads_on, leads_setup, refuses_setup, refuses_after}
use Rattle.cell_commands.proofs.reading.load_plan.Goals as goal

pub returns-in_err-images-clause-comes : goal.returns-in_err-images-clause-comes
returns-in_err-images-clause-comes g c = λ told is next.
    let p = err_from_is_err_and c.from_residual.result c.from_residual.ensures.1 in
    rw (p.1, p.2) (rw c.sources.ensures.named at (c.in_err-images.ensures.comes told is (λ images. with_setup (loaded c.args.plan images) next)))

pub returns-in-Ok-clause-comes : goal.returns-in-Ok-clause-comes
returns-in-Ok-clause-comes g c = λ told is next.
    let r = rw c.sources.ensures.named at (c.in_ok-images.ensures.comes told is (λ images. with_setup (loaded c.args.plan images) next)) in
    let f : loaded c.args.plan c.in_ok-images.images.items ≡ Ok c.in-Ok.setup = rw c.as_slice.ensures.value at c.in-Ok.ensures.exact in
    leads_on r (leads_setup told _ _ next f)

pub returns-clause-comes : goal.returns-clause-comes
returns-clause-comes g c = λ told is next.
    let r = rw c.sources.ensures.named at (c.in_ok-images.ensures.comes told is (λ images. with_setup (loaded c.args.plan images) next)) in
    let at : LoadGives {X = Opening} (λ s. s) (Err c.in-Err.error) (loaded c.args.plan c.in_ok-images.images.items) = rw c.as_slice.ensures.value at c.in-Err.ensures.exact in
    rw c.load_fault.ensures.same (refuses_after told _ _ _ _ _ r (refuses_setup (λ s. s) told _ next _ _ c.in-Err.error at))
