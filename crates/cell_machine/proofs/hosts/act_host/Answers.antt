use Rattle.std.proofs.Common.{sym, ◌∙◌, length}
use Rattle.cell_machine.proofs.Execs.{none_there}
use Rattle.cell_machine.specs.Limits.{FitsAction}
use Rattle.cell_machine.proofs.HostSteps.{host-over, host-done, host-refused, all-got, got}
use Rattle.cell_machine.proofs.hosts.act_host.Goals as goal

pub returns-in_default-clause-made : goal.returns-in_default-clause-made
returns-in_default-clause-made c = λ M shows all. host-over M _ shows.host_is (sym c.next.ensures ∙ none_there c.next.result c.in_default.not-Some)

pub perform-requires-clause-fits : goal.perform-requires-clause-fits
perform-requires-clause-fits c = let fit = c.requires.fit in record {
  lines = fit.lines;
  size = fit.size;
  fits = all-got (FitsAction fit.lines (length c.args.processors.now)) c.args.script.now.script c.args.script.now.done c.in-Some.action fit.actions (sym c.next.ensures ∙ c.in-Some.is);
}

pub returns-in_default-perform-clause-made : goal.returns-in_default-perform-clause-made
returns-in_default-perform-clause-made c = λ M shows all.
    host-refused _ _ c.args.script.now M c.in-Some.action shows.host_is (sym c.next.ensures ∙ c.in-Some.is)
    (rw (none_there c.perform.result c.in_default-perform.not-Some) at (c.perform.ensures.made c.args.script.now M shows all))

pub advance-requires-clause-left : goal.advance-requires-clause-left
advance-requires-clause-left c = (got c.args.script.now.script c.args.script.now.done c.in-Some.action (sym c.next.ensures ∙ c.in-Some.is)).0

pub returns-clause-made : goal.returns-clause-made
returns-clause-made c = λ M shows all.
    rw c.advance.ensures (host-done _ _ c.args.script.now M c.in-Some.action c.in-Some-perform.taken shows.host_is (sym c.next.ensures ∙ c.in-Some.is)
    (rw c.in-Some-perform.is at (c.perform.ensures.made c.args.script.now M shows all)))
