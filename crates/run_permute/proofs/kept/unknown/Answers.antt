use Rattle.std.proofs.Common.{◌-◌, ◌<◌, ◌≤◌, length, arith}
use Rattle.run_permute.proofs.SettledEntries.{in-get}
use Rattle.run_permute.proofs.kept.unknown.Goals as goal

pub is_before-requires : goal.is_before-requires
is_before-requires g c =
    (c.requires.0, c.requires.1 _ (in-get c.args.steps.now (c.loop-left.left - 1) (let few : c.loop-left.left ≤ length c.args.steps.now = c.loop-left.invariant.few in let some : 0 < c.loop-left.left = c.loop-left-test.true in omega arith)))
