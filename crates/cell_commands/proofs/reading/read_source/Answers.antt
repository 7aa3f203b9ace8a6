use Rattle.std.proofs.Common.{◌≡◌, Ok, Err}
use Rattle.std.proofs.lemmas.Result.{err_from_is_err_and}
use Rattle.spu_asm.specs.Images.{Image}
use Rattle.spu_asm.specs.Assembling.{assembled}
use Rattle.spu_asm.specs.Outcomes.{Gives}
use Rattle.cell_commands.specs.declared.fault.FileId.TheVariants.{Source}
use Rattle.cell_commands.specs.Forms.{with_image}
use Rattle.cell_commands.proofs.Steps.{leads_on, leads_image, refuses_image, refuses_after}
use Rattle.cell_commands.proofs.reading.read_source.Goals as goal

pub returns-in_err-text-clause-comes : goal.returns-in_err-text-clause-comes
returns-in_err-text-clause-comes g c = λ told is next.
    let p = err_from_is_err_and c.from_residual.result c.from_residual.ensures.1 in
    rw (p.1, p.2) (c.in_err-text.ensures.comes told is (λ text. with_image (Source c.args.number) (assembled text) next))

pub returns-in-Ok-clause-comes : goal.returns-in-Ok-clause-comes
returns-in-Ok-clause-comes g c = λ told is next.
    let e : assembled c.in_ok-text.text.items ≡ Ok c.in-Ok.image = rw c.as_slice.ensures.value at c.in-Ok.ensures.image in
    leads_on (c.in_ok-text.ensures.comes told is (λ text. with_image (Source c.args.number) (assembled text) next))
    (leads_image told (Source c.args.number) c.in_ok-text.text.items c.in-Ok.image next e)

pub returns-clause-comes : goal.returns-clause-comes
returns-clause-comes g c = λ told is next.
    let at : Gives {A = Image} (Err c.in-Err.error) (assembled c.in_ok-text.text.items) = rw c.as_slice.ensures.value at c.in-Err.ensures.image in
    rw c.source_fault.ensures.same
    (refuses_after told _ _ _ _ _ (c.in_ok-text.ensures.comes told is (λ text. with_image (Source c.args.number) (assembled text) next))
    (refuses_image told (Source c.args.number) c.in_ok-text.text.items next _ _ c.in-Err.error at))
