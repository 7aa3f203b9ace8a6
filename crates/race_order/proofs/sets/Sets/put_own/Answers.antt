use Rattle.std.proofs.Common.{rules, ◌≡◌, ◌||◌, ◌&&◌, get_or, set, sym, ap, ◌∙◌, subst}
use Rattle.order_sets.specs.Stands.{has_at}
use Rattle.race_order.specs.declared.roles.QueueRole.TheVariants.{Base}
use Rattle.race_order.specs.declared.roles.Role.TheVariants.{OfExec}
use Rattle.race_order.specs.Tables.{same_role, own_has, own_of, has_or, table_has, sets_have}
use Rattle.race_order.proofs.OwnSets.{own_more}
use Rattle.race_order.proofs.sets.Sets.put_own.Goals as goal

pub returns-clause-has : goal.returns-clause-has
returns-clause-has c = λ r at.
    let sets = c.args.self.now in
    let here : c.index_mut.result.now ≡ get_or c.args.self.now.own.items c.args.spe c.index_mut.result.now = search rules in
    subst (λ i. has_or (own_of (set sets.own.items i c.put.new.self) r) at (table_has sets.table r at) ≡ (sets_have sets r at || (same_role (Base (OfExec c.args.spe)) r && has_at c.args.known.now at))) (sym c.from.ensures)
    (own_more sets.own.items c.args.spe c.put.new.self c.index_mut.result.now r at (table_has sets.table r at) (has_at c.args.known.now at) c.requires.inside
    (c.in_ok-put.ensures.has at ∙ ap (λ own. own_has own at || has_at c.args.known.now at) here))
