use Rattle.std.proofs.Common.{◌≡◌, ◌<◌, [], length, get_or, arith, ap, sym, subst, ◌∙◌}
use Rattle.race_check.specs.Walks.{IsOrdered}
use Rattle.std.proofs.lemmas.List.{get_or_default}
use Rattle.race_check.specs.Entries.{HasSameBytes}
use Rattle.race_check.specs.Crowds.{IsJoined, IsPut}
use Rattle.race_check.proofs.CrowdLaws.{handed_back, joined_at, joined_behind, put_behind}
use Rattle.race_check.proofs.crowds.join.Goals as goal

pub returns-in-Some : goal.returns-in-Some
returns-in-Some c =
    let before = IsOrdered c.args.walk.now.machine in
    let crowds = c.args.crowds.now.items in
    let same = c.as_mut_slice-crowds.ensures.value in
    let low : c.in-Some.i < length crowds = subst (λ xs. c.in-Some.i < length xs) c.as_slice.ensures.value c.in-Some.ensures.inside in
    let old = get_or c.as_mut_slice-crowds.result.now c.in-Some.i c.index-crowds-i.result in
    let at : get_or crowds c.in-Some.i old ≡ old = get_or_default crowds c.in-Some.i old c.index-crowds-i.result low ∙ ap (λ xs. get_or xs c.in-Some.i c.index-crowds-i.result) (sym same) in
    let bytes = subst (λ xs. HasSameBytes (get_or xs c.in-Some.i c.index-crowds-i.result).entry c.args.new.now) (c.as_slice.ensures.value ∙ sym same) (c.in-Some.ensures.same c.index-crowds-i.result) in
    subst (IsJoined before c.args.new.now crowds) (sym (handed_back c.args.crowds.now.len c.in-Some.i crowds c.as_mut_slice-crowds.result.now c.take.new.self (omega arith) same))
    (joined_at crowds c.in-Some.i old c.take.new.self low at c.in_ok-take.ensures.same before c.args.new.now bytes c.in_ok-take.ensures.taken)

pub returns : goal.returns
returns c =
    joined_behind (IsOrdered c.args.walk.now.machine) c.args.new.now c.args.crowds.now.items c.push.new.self.items
    (subst (IsPut c.args.new.now [] c.args.crowds.now.items) (sym c.in_ok-push.ensures.items) (put_behind c.args.crowds.now.items c.of.result c.args.new.now [] c.of.ensures.entry c.of.ensures.others))
