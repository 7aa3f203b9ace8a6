use Rattle.std.proofs.lemmas.Result.{err_from_is_err_and}
use Rattle.cell_report.specs.Images.{image_lines}
use Rattle.cell_commands.specs.Task.{ready, text_of}
use Rattle.cell_commands.proofs.asm.prepare_asm.Goals as goal

pub returns-in_err-image-clause-comes : goal.returns-in_err-image-clause-comes
returns-in_err-image-clause-comes g c = λ told is.
    let p = err_from_is_err_and c.from_residual.result c.from_residual.ensures.1 in
    rw (p.1, p.2) (c.in_err-image.ensures.comes told is (λ image. ready (text_of (image_lines image))))

pub returns-clause-comes : goal.returns-clause-comes
returns-clause-comes g c = λ told is.
    rw c.in-Ok.ensures (c.in_ok-image.ensures.comes told is (λ image. ready (text_of (image_lines image))))
