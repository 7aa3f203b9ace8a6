use Rattle.std.proofs.Common.{Err, refl, ap}
use Rattle.cell_commands.proofs.Summaries.{gen_ended, gen_refused}
use Rattle.cell_commands.proofs.generated.run_generated.Goals as goal

pub returns-in-Err-clause-answer : goal.returns-in-Err-clause-answer
returns-in-Err-clause-answer g c = λ told old new.
    rw c.gen_fault.ensures.same (gen_refused told c.args.n old new _ _ c.in-Err.error (λ m is. (c.in-Err.ensures.too_large m).0 (ap Err is)))

pub returns-in-Ok-run_setup-clause-answer : goal.returns-in-Ok-run_setup-clause-answer
returns-in-Ok-run_setup-clause-answer g c = λ told old new.
    gen_ended told c.args.n old new _ _ _ (λ large. (let e = (c.in-Ok.ensures.too_large c.args.n).1 (large, refl) in cc)) c.write_summary.ensures.ends
