use Rattle.std.proofs.Common.{sym, subst}
use Rattle.trace_commands.specs.Files.{StandsFor}
use Rattle.trace_commands.proofs.program.alone_text.Goals as goal

pub returns-in-Ok-clause-comes : goal.returns-in-Ok-clause-comes
returns-in-Ok-clause-comes g c = λ told is. (
  c.run_alone.new.machine,
  subst (StandsFor told c.args.machine.now) (sym c.run_alone.ensures.setup) (c.in_ok-machine.ensures.comes told is),
  c.run_alone.ensures.turns,
  c.in-Ok.ensures,
)
