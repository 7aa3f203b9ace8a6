use Rattle.std.proofs.lemmas.Bool.{both_ways}
use Rattle.race_check.specs.Walks.{IsOrdered}
use Rattle.race_check.proofs.CrowdLaws.{crowd_clash, crowd_clear}
use Rattle.race_check.proofs.crowds.clash.Goals as goal

pub returns-then-meet : goal.returns-then-meet
returns-then-meet c =
    let shared = c.meet.ensures.0 c.if-meet.true in
    crowd_clash (IsOrdered c.args.walk.now.machine) c.args.new.now c.args.crowd.now c.latest_unsafe.result shared.0 shared.1 shared.2 shared.3 c.latest_unsafe.ensures

pub returns-else-meet : goal.returns-else-meet
returns-else-meet c = crowd_clear (IsOrdered c.args.walk.now.machine) c.args.new.now c.args.crowd.now (λ p x h n. both_ways _ c.if-meet.false (c.meet.ensures.1 (p, x, h, n)))
