use Rattle.std.proofs.Common.{arith}
use Rattle.cell_report.proofs.Records.{counted_alone}
use Rattle.cell_report.proofs.record.record_text_1.Goals as goal

pub returns : goal.returns
returns c = counted_alone c.loop-step.out.items _ _ c.loop-step.step-index c.args.steps.now (omega arith) c.loop-step.invariant c.in_ok-put_count.ensures
