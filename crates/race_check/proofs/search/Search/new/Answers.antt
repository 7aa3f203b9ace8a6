use Rattle.race_check.proofs.Accepted.{clear-none}
use Rattle.race_check.proofs.search.Search.new.Goals as goal

pub returns-clause-clear : goal.returns-clause-clear
returns-clause-clear c = clear-none _ c.args.setup.now c.in_ok-walk.ensures.run c.in_ok-walk.ensures.stands c.in_ok-shadow.ensures c.in_ok-accesses.ensures.items
