use Rattle.std.proofs.Common.{rules, ◌≡◌, ◌||◌, ◌&&◌, get_or, set, sym, ap, ◌∙◌, subst}
use Rattle.order_sets.specs.Facts.{covers}
use Rattle.race_order.specs.declared.roles.QueueRole.TheVariants.{Base}
use Rattle.race_order.specs.declared.roles.Role.TheVariants.{OfExec}
use Rattle.race_order.specs.Tables.{same_role, own_has, own_of, has_or, table_has, sets_have}
use Rattle.race_order.proofs.OwnSets.{own_more}
use Rattle.race_order.proofs.sets.Sets.add_own.Goals as goal

pub returns-clause-has : goal.returns-clause-has
returns-clause-has c = λ r at.
    let sets = c.args.self.now in
    let here : c.index_mut.result.now ≡ get_or c.args.self.now.own.items c.args.spe c.index_mut.result.now = search rules in
    subst (λ i. has_or (own_of (set sets.own.items i c.add.new.self) r) at (table_has sets.table r at) ≡ (sets_have sets r at || (same_role (Base (OfExec c.args.spe)) r && covers c.args.fact at))) (sym c.from.ensures)
    (own_more sets.own.items c.args.spe c.add.new.self c.index_mut.result.now r at (table_has sets.table r at) (covers c.args.fact at) c.requires.inside
    (c.in_ok-add.ensures.has at ∙ ap (λ own. own_has own at || covers c.args.fact at) here))
