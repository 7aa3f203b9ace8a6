use Rattle.std.proofs.Common.{drop, refl, sym, ◌∙◌}
use Rattle.cell_commands.proofs.Differences.{all_taken}
use Rattle.cell_commands.proofs.Checks.{not_empty, tells_end, states_differ}
use Rattle.cell_commands.proofs.checking.check_states.Goals as goal

pub returns-clause-refused : goal.returns-clause-refused
returns-clause-refused c = (
  c.args.machine.now.steps,
  states_differ c.args.machine.now c.args.text.now (drop c.args.end c.args.text.now) c.requires.begins c.in-Ok.wanted.items c.args.end c.in-Some.place c.requires.end refl
      (not_empty c.args.end c.args.text.now (sym c.is_empty.ensures ∙ c.if-is_empty.false)) (tells_end c.args.machine.now c.in-Ok.wanted.items c.in-Ok.ensures.text)
      (rw (all_taken c.args.end c.args.text.now, c.as_slice.ensures.value) at c.in-Some.ensures.differ),
)
