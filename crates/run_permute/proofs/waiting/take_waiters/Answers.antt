use Rattle.std.proofs.Common.{sym, ap, ◌∙◌}
use Rattle.run_permute.specs.Lists.{steps_in}
use Rattle.run_permute.proofs.Entries.{list-get, list-other}
use Rattle.run_permute.proofs.Waiters.{emptied}
use Rattle.run_permute.proofs.waiting.take_waiters.Goals as goal

pub returns-clause-taken : goal.returns-clause-taken
returns-clause-taken c = ap steps_in c.replace.ensures.value ∙ sym (list-get c.args.waiting.now c.args.i c.index-waiting-i.result c.requires)

pub returns-clause-kept : goal.returns-clause-kept
returns-clause-kept c = λ a k h. emptied c.args.waiting.now c.args.i c.replace.new.dest a k c.requires (ap steps_in c.replace.ensures.after ∙ c.none.ensures) h

pub returns-clause-others : goal.returns-clause-others
returns-clause-others c = λ a other. list-other c.args.waiting.now c.args.i a c.replace.new.dest other
