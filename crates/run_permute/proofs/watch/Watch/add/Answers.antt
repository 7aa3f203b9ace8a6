use Rattle.std.proofs.Common.{sym, subst}
use Rattle.cell_machine.specs.declared.effect.Note.{Note}
use Rattle.run_permute.specs.Watches.{IsAdded}
use Rattle.run_permute.proofs.watch.Watch.add.Goals as goal

pub returns-in_ok-push-clause-kept : goal.returns-in_ok-push-clause-kept
returns-in_ok-push-clause-kept c =
    subst (λ (n : Note). IsAdded n c.args.self.now.kept.items c.push.new.self.items) (sym c.in-Issue.is)
    (c.new.result, record { cmd = c.new.ensures.cmd; progress = c.new.ensures.progress; steps = c.new.ensures.steps }, c.in_ok-push.ensures.items)
