use Rattle.std.proofs.Common.{◌≡◌, refl, ap}
use Rattle.std.proofs.lemmas.Result.{err_from_is_err_and}
use Rattle.spu_asm.specs.declared.error.AsmError.TheVariants.{Memory}
use Rattle.spu_asm.specs.Images.{Image}
use Rattle.spu_asm.specs.Source.{source_view, lines_in, lines_left}
use Rattle.spu_asm.proofs.ListingLemmas.{image_fails}
use Rattle.spu_asm.proofs.list.Goals as goal

pub returns-in_err-lines-clause-image : goal.returns-in_err-lines-clause-image
returns-in_err-lines-clause-image c =
    let text = c.args.text.now in
    let tokens = c.items-2.result.now in
    let source = source_view text tokens c.in_ok-defined.defined.entries in
    let all = c.all_lines.ensures in
    let same : lines_left text c.all_lines.result ≡ lines_in text tokens = rw (all.number, all.section, all.tokens, c.items-2.ensures, c.items-3.ensures) refl in
    let e = c.in_err-lines.field-0.0 in
    let p = err_from_is_err_and c.from_residual-in_err-lines.result c.from_residual-in_err-lines.ensures.1 in
    let short : e ≡ Memory = image_fails text source c.in_ok-image.image c.image.inside.bytes_at (lines_left text c.all_lines.result) e c.in_ok-image.ensures.image (ap (λ (i : Image). i.bytes_at) c.image.view_is) same c.in_err-lines.ensures in
    rw (p.1, p.2, short) tt
