use Rattle.std.proofs.Common.{◌||◌, ◌&&◌, ◌++◌, map, ap, ap₂, sym, ◌∙◌}
use Rattle.std.proofs.lemmas.List.{map-append}
use Rattle.race_order.specs.declared.roles.QueueRole.TheVariants.{Base}
use Rattle.race_order.specs.Bringing.{has_brought}
use Rattle.race_order.specs.Listed.{listed}
use Rattle.race_order.specs.Roles.{line_roles}
use Rattle.race_order.specs.Tables.{same_role, is_among, sets_have}
use Rattle.race_order.proofs.Growing.{entered}
use Rattle.race_order.proofs.entering.enter_plain.Goals as goal

pub returns-clause-has : goal.returns-clause-has
returns-clause-has c = λ r at.
    let some = listed c.step_write.result in
    let more = listed c.note_write.result in
    let lines = line_roles c.args.brought.now.whole c.args.brought.now.effect.now in
    let k = has_brought c.args.brought.now at in
    entered (λ w. same_role w r) k (map Base some) (map Base more ++ map Base lines) (sets_have c.args.sets.now r at) (sets_have c.enter_some.new.sets r at) (sets_have c.enter_lines.new.sets r at)
    (c.in_ok-enter_some.ensures.has r at)
    (entered (λ w. same_role w r) k (map Base more) (map Base lines) (sets_have c.enter_some.new.sets r at) (sets_have c.enter_some-2.new.sets r at) (sets_have c.enter_lines.new.sets r at)
    (c.in_ok-enter_some-2.ensures.has r at) (c.in_ok-enter_lines.ensures.has r at))
    ∙ (ap (λ l. sets_have c.args.sets.now r at || (is_among r (map Base some ++ l) && k)) (sym (map-append Base more lines))
    ∙ (ap (λ l. sets_have c.args.sets.now r at || (is_among r l && k)) (sym (map-append Base some (more ++ lines)))
    ∙ ap₂ (λ x y. sets_have c.args.sets.now r at || (is_among r (map Base (x ++ (y ++ lines))) && k)) c.step_write.ensures c.note_write.ensures))
