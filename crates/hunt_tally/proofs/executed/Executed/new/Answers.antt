use Rattle.hunt_tally.proofs.ExecutedLemmas.{marks_none}
use Rattle.hunt_tally.proofs.executed.Executed.new.Goals as goal

pub returns : goal.returns
returns c = marks_none c.new.result.items c.new.ensures.items
