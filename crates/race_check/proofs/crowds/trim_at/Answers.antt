use Rattle.std.proofs.Common.{◌≡◌, ap, refl, sym, subst, ◌∙◌}
use Rattle.std.proofs.lemmas.List.{get_or_default}
use Rattle.race_check.specs.declared.crowd.Crowd.{Crowd}
use Rattle.race_check.specs.Crowds.{IsCutPut}
use Rattle.race_check.proofs.CrowdLaws.{trimmed_at}
use Rattle.race_check.proofs.crowds.trim_at.Goals as goal

pub returns-clause-trimmed : goal.returns-clause-trimmed
returns-clause-trimmed c =
    let crowds = c.args.crowds.now.items in
    let crowd = c.swap_remove-crowd.result in
    let shared = c.meet.ensures.0 c.if-not-meet.false in
    let one = c.swap_remove-crowd.ensures.value ∙ get_or_default crowds c.args.i crowd c.index.result.now c.requires ∙ sym c.index.ensures in
    let place : crowd.entry.place ≡ c.args.new.now.place = ap (λ (c' : Crowd). c'.entry.place) one ∙ shared.2.place ∙ sym shared.3.place in
    trimmed_at c.args.new.now crowds c.args.i crowd c.requires c.swap_remove-crowd.ensures.value place c.front.result c.back.result crowd.others.list.items c.put_cut.new.crowds.items c.put_cut-2.new.crowds.items
    refl c.front.ensures (subst (λ xs. IsCutPut c.front.result crowd.others.list.items xs c.put_cut.new.crowds.items) c.swap_remove-crowd.ensures.items c.in_ok-put_cut.ensures.put) c.back.ensures c.in_ok-put_cut-2.ensures.put
