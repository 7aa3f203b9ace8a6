use Rattle.run_walk.specs.Walks.{walked}
use Rattle.run_permute.proofs.settling.Settling.follow.Given as goal

abbrev pub ghost-follow : goal.ghost-follow
ghost-follow a = walked a.walk.now
