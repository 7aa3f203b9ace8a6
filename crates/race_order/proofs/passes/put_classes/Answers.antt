use Rattle.std.proofs.Common.{◌||◌, ◌&&◌, ◌++◌, ◌∷◌, [], ap₂, ◌∙◌}
use Rattle.std.specs.List.{list_any}
use Rattle.order_sets.specs.Stands.{has_at}
use Rattle.race_order.specs.declared.roles.Class.{Class}
use Rattle.race_order.specs.declared.roles.Class.TheVariants.{All, Tag, BarredTag, Barriers}
use Rattle.race_order.specs.declared.roles.QueueRole.TheVariants.{Complete}
use Rattle.race_order.specs.Passes.{when}
use Rattle.race_order.specs.Tables.{same_role, sets_have}
use Rattle.race_order.proofs.Growing.{grown}
use Rattle.race_order.proofs.passes.put_classes.Goals as goal

pub returns-clause-has : goal.returns-clause-has
returns-clause-has c = λ r at.
    let p = λ (x : Class). same_role (Complete c.args.spe x) r && has_at c.args.known.now at in
    let tag = c.args.command.now.tag in
    let t0 = sets_have c.args.sets.now r at in
    let t1 = sets_have c.put_when.new.sets r at in
    let t2 = sets_have c.put_when-2.new.sets r at in
    let t3 = sets_have c.put_when-3.new.sets r at in
    let t4 = sets_have c.put_when-4.new.sets r at in
    let own = when c.barred.result (BarredTag tag) in
    let last = when c.barrier.result Barriers in
    grown p (All ∷ []) (Tag tag ∷ (own ++ last)) t0 t1 t4 (c.in_ok-put_when.ensures.has r at)
    (grown p (Tag tag ∷ []) (own ++ last) t1 t2 t4 (c.in_ok-put_when-2.ensures.has r at)
    (grown p own last t2 t3 t4 (c.in_ok-put_when-3.ensures.has r at) (c.in_ok-put_when-4.ensures.has r at)))
    ∙ ap₂ (λ a b. t0 || list_any p (All ∷ Tag tag ∷ (when a (BarredTag tag) ++ when b Barriers))) c.barred.ensures c.barrier.ensures
