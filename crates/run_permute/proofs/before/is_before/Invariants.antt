use Rattle.run_walk.specs.Walks.{walked}
use Rattle.run_permute.proofs.before.is_before.Given as goal

abbrev pub ghost-before : goal.ghost-before
ghost-before g a = walked a.self.now
