use Rattle.std.proofs.Common.{◌-◌, length}
use Rattle.run_walk.specs.Walks.{walked}
use Rattle.run_permute.specs.Walks.{Here}
use Rattle.run_permute.proofs.watch.Watch.execute.Given as goal

abbrev pub ghost-look : goal.ghost-look
ghost-look g a = let here : Here = record { run = g.m; place = length (walked a.walk.now).steps - 1 } in here
