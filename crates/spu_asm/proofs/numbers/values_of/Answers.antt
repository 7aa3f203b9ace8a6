use Rattle.std.proofs.Common.{ℤ, rules}
use Rattle.std.proofs.lemmas.Result.{err_from_is_err_and}
use Rattle.std.proofs.lemmas.Int.{to_z-of_z}
use Rattle.std.specs.Global.{Vec}
use mir.Val.{SFits}
use mir.Syntax.{w128}
use Rattle.spu_asm.specs.Outcomes.{on_line}
use Rattle.spu_asm.specs.Source.{labels_view}
use Rattle.spu_asm.specs.Encoding.{values_of}
use Rattle.spu_asm.proofs.NumbersLemmas.{next_value, no_value, all_values}
use Rattle.spu_asm.proofs.OutcomeLemmas.{shows_err}
use Rattle.spu_asm.proofs.numbers.values_of.Goals as goal

pub returns-in_err-value_on : goal.returns-in_err-value_on
returns-in_err-value_on c =
    let text = c.args.text.now in
    let labels = labels_view c.args.labels.now.entries in
    let places = c.args.places.now in
    let es = c.args.es.now in
    let e = c.in_err-value_on.field-0.0 in
    let total = values_of text labels places es in
    let p = err_from_is_err_and c.from_residual.result c.from_residual.ensures.1 in
    rw (p.1, p.2) (shows_err (λ (v : Vec ℤ). v.items) e (on_line c.args.number total) (no_value text labels places c.args.number c.loop-e.found.items es c.loop-e.e-index total c.loop-e-test.true c.loop-e.invariant e c.in_err-value_on.ensures))

pub loop-e-preserved : goal.loop-e-preserved
loop-e-preserved c =
    let text = c.args.text.now in
    let labels = labels_view c.args.labels.now.entries in
    let places = c.args.places.now in
    let es = c.args.es.now in
    let f : SFits w128 c.in_ok-value_on.field-0 = search rules in
    rw (c.in_ok-push.ensures.items, to_z-of_z w128 c.in_ok-value_on.field-0 f) (next_value text labels places c.args.number c.loop-e.found.items es c.loop-e.e-index (values_of text labels places es) c.loop-e-test.true c.loop-e.invariant c.in_ok-value_on.field-0 c.in_ok-value_on.ensures)

pub returns : goal.returns
returns c =
    let text = c.args.text.now in
    let labels = labels_view c.args.labels.now.entries in
    let places = c.args.places.now in
    let es = c.args.es.now in
    all_values text labels places c.args.number c.loop-e.found.items es c.loop-e.e-index (values_of text labels places es) c.loop-e-test.false c.loop-e.invariant
