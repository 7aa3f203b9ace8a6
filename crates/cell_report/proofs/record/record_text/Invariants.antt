use Rattle.std.proofs.Common.{◌≡◌, ◌++◌, ◌≤◌, length}
use Rattle.cell_base.specs.declared.format.Format.TheVariants.{Two}
use Rattle.cell_base.specs.Records.{head_line}
use Rattle.cell_report.proofs.Records.{to_write}
use Rattle.cell_report.proofs.record.record_text.Given as goal

abbrev pub invariant-loop-first : goal.invariant-loop-first
invariant-loop-first l = record { few : length l.rest ≤ length l.fn.steps; so_far : l.out.items ++ to_write l.rest ≡ head_line Two ++ to_write l.fn.steps }

abbrev pub decreases-loop-first : goal.decreases-loop-first
decreases-loop-first l = length l.rest
