use Rattle.std.proofs.Common.{rules, ◌≡◌, get_or, refl, ap, sym, ◌∙◌}
use Rattle.race_order.specs.Tables.{bucket_has, place_of}
use Rattle.race_order.proofs.SameRoles.{none_has}
use Rattle.race_order.proofs.HasIn.{named_there}
use Rattle.race_order.proofs.table.Table.holds.Goals as goal

pub returns-in-Some : goal.returns-in-Some
returns-in-Some c = λ q at.
    let table = c.args.self.now in
    let here : c.index.result.now ≡ get_or table.buckets.items c.in-Some.k c.index.result.now = search rules in
    named_there table.buckets.items (place_of table.places.items c.args.role) c.in-Some.k c.index.result.now c.args.role at c.in-Some.ensures.place c.in-Some.ensures.inside
    ∙ (ap (bucket_has c.args.role at) (sym here) ∙ none_has c.args.role at c.index.result.now.rows.items (sym c.holds.ensures ∙ q))

pub returns-in-None : goal.returns-in-None
returns-in-None c = λ q at. c.find.ensures.none c.in-None.is c.args.role at refl
