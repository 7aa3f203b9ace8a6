use Rattle.std.proofs.Common.{◌≡◌, ◌++◌, take}
use Rattle.std.specs.List.{flat_map}
use Rattle.cell_base.specs.declared.format.Format.TheVariants.{One}
use Rattle.cell_base.specs.Records.{step_line, head_line}
use Rattle.cell_report.proofs.record.record_text_1.Given as goal

abbrev pub invariant-loop-step : goal.invariant-loop-step
invariant-loop-step l = l.out.items ≡ head_line One ++ flat_map step_line (take l.step-index l.steps)
