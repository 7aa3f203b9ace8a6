use Rattle.std.specs.Prelude.{Contains, ◌≡◌}
use Rattle.race_check.specs.Walks.{IsOrdered}
use Rattle.race_check.proofs.Latest.{steps_both}
use Rattle.race_check.proofs.crowd.Crowd.latest_unsafe.Goals as goal

pub returns : goal.returns
returns c =
    let self = c.args.self.now in
    steps_both (IsOrdered c.args.walk.now.machine) c.args.last (λ s. s ≡ self.entry.step) (Contains self.others.list.items) c.if_unsafe-own.result c.latest_unsafe.result c.later.result c.later.ensures c.if_unsafe-own.ensures c.latest_unsafe.ensures
