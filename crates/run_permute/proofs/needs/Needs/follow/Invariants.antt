use Rattle.run_walk.specs.Walks.{walked}
use Rattle.std.proofs.Common.{◌-◌, length}
use Rattle.run_permute.specs.Walks.{Here}
use Rattle.run_permute.proofs.needs.Needs.follow.Given as goal

abbrev pub ghost-gather : goal.ghost-gather
ghost-gather a = let here : Here = record { run = walked a.walk.now; place = length (walked a.walk.now).steps - 1 } in here

abbrev pub ghost-add : goal.ghost-add
ghost-add a = let here : Here = record { run = walked a.walk.now; place = a.place } in here
