use Rattle.std.proofs.Common.{ℕ, ℤ, ◌∙◌}
use Rattle.std.specs.Global.{Vec}
use Rattle.std.proofs.lemmas.Result.{err_from_is_err_and}
use Rattle.spu_asm.specs.Source.{labels_view}
use Rattle.spu_asm.specs.Encoding.{values_of, spelled}
use Rattle.spu_asm.specs.Statements.{expressions_among}
use Rattle.spu_asm.proofs.NumbersLemmas.{values_err}
use Rattle.spu_asm.proofs.lines.value_bytes.Goals as goal

pub returns-in_err-values : goal.returns-in_err-values
returns-in_err-values c =
    let listed = c.deref.ensures.value ∙ c.in_ok-es.ensures.listed in
    let p = err_from_is_err_and c.from_residual-in_err-values.result c.from_residual-in_err-values.ensures.1 in
    rw (p.1, p.2) (values_err (λ (v : Vec ℤ). v.items) (λ (v : Vec ℕ). v.items) c.args.number (values_of c.args.text.now (labels_view c.args.labels.now.entries) c.args.places.now (expressions_among c.args.text.now c.args.arguments.now)) (spelled c.args.size) c.in_err-values.field-0.0 (rw listed at c.in_err-values.ensures))
