use Rattle.std.proofs.Common.{◌≡◌, ◌<◌, length, get_or, arith, ap, refl, sym, subst, ◌∙◌}
use Rattle.std.proofs.lemmas.List.{get_or_default}
use Rattle.race_check.specs.Entries.{HasSameBytes}
use Rattle.race_check.specs.Crowds.{IsPut}
use Rattle.race_check.proofs.CrowdLaws.{handed_back, put_at, put_behind}
use Rattle.race_check.proofs.crowds.put.Goals as goal

pub returns-in-Some-clause-put : goal.returns-in-Some-clause-put
returns-in-Some-clause-put c =
    let crowds = c.args.crowds.now.items in
    let same = c.as_mut_slice-crowds.ensures.value in
    let low : c.in-Some.i < length crowds = subst (λ xs. c.in-Some.i < length xs) c.as_slice.ensures.value c.in-Some.ensures.inside in
    let old = get_or c.as_mut_slice-crowds.result.now c.in-Some.i c.index-crowds-i.result in
    let at : get_or crowds c.in-Some.i old ≡ old = get_or_default crowds c.in-Some.i old c.index-crowds-i.result low ∙ ap (λ xs. get_or xs c.in-Some.i c.index-crowds-i.result) (sym same) in
    let bytes = subst (λ xs. HasSameBytes (get_or xs c.in-Some.i c.index-crowds-i.result).entry c.args.entry.now) (c.as_slice.ensures.value ∙ sym same) (c.in-Some.ensures.same c.index-crowds-i.result) in
    subst (IsPut c.args.entry.now c.args.others.now.list.items crowds) (sym (handed_back c.args.crowds.now.len c.in-Some.i crowds c.as_mut_slice-crowds.result.now c.add.new.self (omega arith) same))
    (put_at crowds c.in-Some.i old c.add.new.self low at c.in_ok-add.ensures.same c.args.entry.now c.args.others.now.list.items bytes c.in_ok-add.ensures.steps)

pub returns-clause-put : goal.returns-clause-put
returns-clause-put c =
    subst (IsPut c.args.entry.now c.args.others.now.list.items c.args.crowds.now.items) (sym c.in_ok-push.ensures.items)
    (put_behind c.args.crowds.now.items _ c.args.entry.now c.args.others.now.list.items refl c.in_ok-others.ensures)
