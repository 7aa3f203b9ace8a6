use Rattle.std.proofs.Common.{map}
use Rattle.race_order.specs.declared.roles.QueueRole.TheVariants.{Base}
use Rattle.race_order.specs.Bringing.{has_brought}
use Rattle.race_order.specs.Listed.{write_roles_by}
use Rattle.race_order.specs.Ordering.{issued_in, self_roles}
use Rattle.race_order.specs.Stamps.{event_of}
use Rattle.race_order.specs.Tables.{same_role, sets_have}
use Rattle.race_order.proofs.Growing.{entered}
use Rattle.race_order.proofs.entering.enter_all.Goals as goal

pub returns-clause-has : goal.returns-clause-has
returns-clause-has c = λ r at.
    let b = c.args.brought.now in
    entered (λ w. same_role w r) (has_brought c.args.brought.now at) (map Base (write_roles_by c.args.boxes.now.puts.items c.args.boxes.now.takes.items b.whole (event_of b.step b.effect.now))) (self_roles (issued_in b.step b.effect.now.note)) (sets_have c.args.sets.now r at) (sets_have c.enter_plain.new.sets r at) (sets_have c.enter_issued.new.sets r at)
    (c.in_ok-enter_plain.ensures.has r at) (c.in_ok-enter_issued.ensures.has r at)
