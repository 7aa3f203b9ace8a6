use Rattle.std.proofs.Common.{refl}
use Rattle.race_check.specs.declared.crowd.Crowd.{Crowd}
use Rattle.race_check.specs.Walks.{IsOrdered}
use Rattle.race_check.proofs.CrowdLaws.{taken_behind, taken_first}
use Rattle.race_check.proofs.crowd.Crowd.take.Goals as goal

pub returns-then-is_safe-clause-taken : goal.returns-then-is_safe-clause-taken
returns-then-is_safe-clause-taken c = taken_first (IsOrdered c.args.walk.now.machine) c.args.last c.args.self.now (let new : Crowd = record { entry = record c.args.self.now.entry { step = c.args.last }; others = c.drop_safe.new.self } in new) refl c.drop_safe.ensures (c.is_safe.ensures.safe c.if-is_safe.true)

pub returns-clause-taken : goal.returns-clause-taken
returns-clause-taken c = taken_behind (IsOrdered c.args.walk.now.machine) c.args.last c.args.self.now (let new : Crowd = record { entry = c.args.self.now.entry; others = c.add.new.self } in new) c.drop_safe.new.self.list.items refl c.drop_safe.ensures c.in_ok-add.ensures
