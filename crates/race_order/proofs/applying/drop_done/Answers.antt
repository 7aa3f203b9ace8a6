use Rattle.std.proofs.Common.{rules, not, sym, ◌∙◌}
use Rattle.std.proofs.lemmas.Fn.{filter_same}
use Rattle.race_order.specs.declared.lives.Live.{Live}
use Rattle.race_order.proofs.Untouched.{none_dropped}
use Rattle.race_order.proofs.applying.drop_done.Goals as goal

pub returns-then-done-clause-lives : goal.returns-then-done-clause-lives
returns-then-done-clause-lives c = filter_same _ (λ (l : Live). not l.progress.done) _ (λ x b f k. search rules) _ _ c.retain.ensures.filtered

pub returns-else-done-clause-lives : goal.returns-else-done-clause-lives
returns-else-done-clause-lives c = none_dropped c.args.lives.now.items (sym c.requires ∙ c.if-done.false)
