use Rattle.race_check.proofs.shadow.Shadow.visit_fetch.Goals as goal

pub returns-then-read_again : goal.returns-then-read_again
returns-then-read_again c = c.read_again.ensures.taken c.if-read_again.true
