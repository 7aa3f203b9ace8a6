use Rattle.std.proofs.Common.{◌||◌, ap, ◌∙◌}
use Rattle.std.specs.List.{list_any}
use Rattle.order_sets.specs.Stands.{has_at}
use Rattle.race_order.specs.declared.roles.QueueRole.TheVariants.{Base}
use Rattle.race_order.specs.Listed.{listed}
use Rattle.race_order.specs.Tables.{sets_have}
use Rattle.race_order.proofs.Growing.{grown}
use Rattle.race_order.proofs.gathering.gather_lines.Goals as goal

pub returns-clause-has : goal.returns-clause-has
returns-clause-has c = λ at.
    grown (λ r. sets_have c.args.sets.now (Base r) at) (listed c.lines-first.result.0) (listed c.lines-first.result.1) (has_at c.args.known.now at) (has_at c.gather_some.new.known at) (has_at c.gather_some-2.new.known at)
    (c.in_ok-gather_some.ensures.has at) (c.in_ok-gather_some-2.ensures.has at)
    ∙ ap (λ l. has_at c.args.known.now at || list_any (λ r. sets_have c.args.sets.now (Base r) at) l) c.lines-first.ensures
