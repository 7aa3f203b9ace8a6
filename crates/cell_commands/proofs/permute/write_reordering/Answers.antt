use Rattle.cell_commands.proofs.Verdicts.{raced_reordering}
use Rattle.cell_commands.proofs.permute.write_reordering.Goals as goal

pub returns-in-Race-clause-ends : goal.returns-in-Race-clause-ends
returns-in-Race-clause-ends g c = raced_reordering c.args.judged.now.machine c.args.n c.args.judged.now.verdict _ _ c.put_verdict.result (λ e. cc) c.requires.verdict c.put_verdict.ensures.ends
