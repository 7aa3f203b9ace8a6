use Rattle.std.proofs.Common.{◌||◌, ◌++◌, ap₂, ◌∙◌}
use Rattle.std.specs.List.{list_any}
use Rattle.order_sets.specs.Stands.{has_at}
use Rattle.race_order.specs.declared.roles.QueueRole.TheVariants.{Base}
use Rattle.race_order.specs.Listed.{listed}
use Rattle.race_order.specs.Roles.{line_roles}
use Rattle.race_order.specs.Tables.{sets_have}
use Rattle.race_order.proofs.Growing.{grown}
use Rattle.race_order.proofs.gathering.gather_plain.Goals as goal

pub returns-clause-has : goal.returns-clause-has
returns-clause-has c = λ at.
    grown (λ r. sets_have c.args.sets.now (Base r) at) (listed c.step_read.result) (listed c.note_read.result ++ line_roles c.args.whole c.args.effect.now) (has_at c.args.known.now at) (has_at c.gather_some.new.known at) (has_at c.gather_lines.new.known at)
    (c.in_ok-gather_some.ensures.has at)
    (grown (λ r. sets_have c.args.sets.now (Base r) at) (listed c.note_read.result) (line_roles c.args.whole c.args.effect.now) (has_at c.gather_some.new.known at) (has_at c.gather_some-2.new.known at) (has_at c.gather_lines.new.known at)
    (c.in_ok-gather_some-2.ensures.has at) (c.in_ok-gather_lines.ensures.has at))
    ∙ ap₂ (λ k l. has_at c.args.known.now at || list_any (λ r. sets_have c.args.sets.now (Base r) at) (k ++ (l ++ line_roles c.args.whole c.args.effect.now))) c.step_read.ensures c.note_read.ensures
