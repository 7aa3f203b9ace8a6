use Rattle.std.proofs.Common.{rules, ◌≡◌, ◌||◌, Bool, true, false, get_or, refl, ap, sym, ◌∙◌}
use Rattle.order_sets.specs.Stands.{has_at}
use Rattle.race_order.specs.Tables.{bucket_has, place_of, table_has}
use Rattle.race_order.proofs.HasIn.{named_there}
use Rattle.race_order.proofs.table.Table.gather.Goals as goal

pub returns-in_ok-gather-clause-has : goal.returns-in_ok-gather-clause-has
returns-in_ok-gather-clause-has c = λ at.
    let table = c.args.self.now in
    let here : c.index.result.now ≡ get_or table.buckets.items c.in-Some.k c.index.result.now = search rules in
    c.in_ok-gather.ensures.has at
    ∙ ap (λ b. has_at c.args.known.now at || b)
    (ap (bucket_has c.args.role at) here ∙ sym (named_there table.buckets.items (place_of table.places.items c.args.role) c.in-Some.k c.index.result.now c.args.role at c.in-Some.ensures.place c.in-Some.ensures.inside))

or_none : (a b : Bool) → b ≡ false → a ≡ (a || b)
or_none true b e = refl
or_none false b e = sym e

pub returns-in_default-clause-has : goal.returns-in_default-clause-has
returns-in_default-clause-has c = λ at.
    or_none (has_at c.args.known.now at) (table_has c.args.self.now c.args.role at) (c.find.ensures.none (search rules) c.args.role at refl)
