use Rattle.std.proofs.Common.{◌||◌, ◌&&◌, map, ap, sym, ◌∙◌}
use Rattle.std.proofs.lemmas.List.{map-append}
use Rattle.race_order.specs.declared.roles.QueueRole.TheVariants.{Base}
use Rattle.race_order.specs.Bringing.{has_brought}
use Rattle.race_order.specs.Listed.{listed}
use Rattle.race_order.specs.Tables.{same_role, is_among, sets_have}
use Rattle.race_order.proofs.Growing.{entered}
use Rattle.race_order.proofs.entering.enter_lines.Goals as goal

pub returns-clause-has : goal.returns-clause-has
returns-clause-has c = λ r at.
    let k = has_brought c.args.brought.now at in
    let first = listed c.lines-first.result.0 in
    let second = listed c.lines-first.result.1 in
    entered (λ w. same_role w r) k (map Base first) (map Base second) (sets_have c.args.sets.now r at) (sets_have c.enter_some.new.sets r at) (sets_have c.enter_some-2.new.sets r at) (c.in_ok-enter_some.ensures.has r at) (c.in_ok-enter_some-2.ensures.has r at)
    ∙ (ap (λ l. sets_have c.args.sets.now r at || (is_among r l && k)) (sym (map-append Base first second)) ∙ ap (λ l. sets_have c.args.sets.now r at || (is_among r (map Base l) && k)) c.lines-first.ensures)
