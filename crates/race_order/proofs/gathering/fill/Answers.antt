use Rattle.std.proofs.Common.{◌||◌, ◌++◌, map, ap, sym, ◌∙◌}
use Rattle.std.specs.List.{list_any}
use Rattle.order_sets.specs.Stands.{has_at}
use Rattle.race_order.specs.declared.roles.QueueRole.TheVariants.{Base}
use Rattle.race_order.specs.Listed.{read_roles_by}
use Rattle.race_order.specs.Ordering.{own_waits, seen_in}
use Rattle.race_order.specs.Stamps.{event_of}
use Rattle.race_order.specs.Tables.{sets_have}
use Rattle.race_order.proofs.Growing.{grown}
use Rattle.race_order.proofs.Passed.{any_map}
use Rattle.race_order.proofs.gathering.fill.Goals as goal

pub returns-clause-has : goal.returns-clause-has
returns-clause-has c = λ at.
    let plain = read_roles_by c.args.boxes.now.puts.items c.args.boxes.now.takes.items c.args.whole (event_of c.args.step c.args.effect.now) in
    grown (λ r. sets_have c.args.sets.now r at) (map Base plain) (own_waits c.args.step ++ seen_in c.args.step c.args.effect.now.note) (has_at c.clear.new.self at) (has_at c.gather_plain.new.known at) (has_at c.gather_seen.new.known at)
    (c.in_ok-gather_plain.ensures.has at ∙ ap (λ b. has_at c.clear.new.self at || b) (sym (any_map (λ r. sets_have c.args.sets.now r at) Base plain)))
    (grown (λ r. sets_have c.args.sets.now r at) (own_waits c.args.step) (seen_in c.args.step c.args.effect.now.note) (has_at c.gather_plain.new.known at) (has_at c.gather_own.new.known at) (has_at c.gather_seen.new.known at)
    (c.in_ok-gather_own.ensures.has at) (c.in_ok-gather_seen.ensures.has at))
    ∙ ap (λ b. b || list_any (λ r. sets_have c.args.sets.now r at) (map Base plain ++ (own_waits c.args.step ++ seen_in c.args.step c.args.effect.now.note))) (c.clear.ensures.empty at)
