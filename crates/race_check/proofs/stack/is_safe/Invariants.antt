use Rattle.run_walk.specs.Walks.{walked}
use Rattle.race_check.proofs.stack.is_safe.Given as goal

abbrev pub ghost-before : goal.ghost-before
ghost-before a = walked a.self.now
