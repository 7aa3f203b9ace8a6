use Rattle.std.proofs.Common.{rules, ◌≡◌, ◌||◌, ◌&&◌, get_or, set, sym, ap, ◌∙◌, subst}
use Rattle.race_order.specs.declared.roles.QueueRole.TheVariants.{Base}
use Rattle.race_order.specs.declared.roles.Role.TheVariants.{OfExec}
use Rattle.race_order.specs.Gains.{has_gain}
use Rattle.race_order.specs.Tables.{same_role, own_has, own_of, has_or, table_has, sets_have}
use Rattle.race_order.proofs.OwnSets.{own_more}
use Rattle.race_order.proofs.sets.Sets.bring_own.Goals as goal

pub returns-clause-has : goal.returns-clause-has
returns-clause-has c = λ r at.
    let sets = c.args.self.now in
    let gain = has_gain c.args.brought.now c.args.more at in
    let here : c.index_mut.result.now ≡ get_or c.args.self.now.own.items c.args.spe c.index_mut.result.now = search rules in
    subst (λ i. has_or (own_of (set sets.own.items i c.bring.new.self) r) at (table_has sets.table r at) ≡ (sets_have sets r at || (same_role (Base (OfExec c.args.spe)) r && gain))) (sym c.from.ensures)
    (own_more sets.own.items c.args.spe c.bring.new.self c.index_mut.result.now r at (table_has sets.table r at) gain c.requires.inside
    (c.in_ok-bring.ensures.has at ∙ ap (λ own. own_has own at || gain) here))
