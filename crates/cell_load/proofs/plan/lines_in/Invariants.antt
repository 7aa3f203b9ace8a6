use Rattle.std.proofs.Common.{◌≡◌, ◌≤◌, ◌+◌, length, map}
use Rattle.cell_base.specs.Words.{lines_of}
use Rattle.cell_base.specs.Walk.{walk}
use Rattle.cell_base.proofs.WalkLaws.{with_front}
use Rattle.cell_load.specs.Entries.{entry_of}
use Rattle.cell_load.specs.Order.{line_step, lacks, machine_at}
use Rattle.cell_load.specs.Plans.{IsBare}
use Rattle.cell_load.specs.declared.line.Stage.TheVariants.{Start}
use Rattle.cell_load.proofs.plan.lines_in.Given as goal

abbrev pub invariant-loop-rest : goal.invariant-loop-rest
invariant-loop-rest l = record {
  few : l.number + length l.rest ≤ length l.text + 1;
  so_far : with_front (map entry_of l.lines.items) (walk line_step lacks l.number l.stage (lines_of l.rest)) ≡ machine_at l.text;
  -- of a text without words nothing was kept
  bare : IsBare (lines_of l.text) → IsBare (lines_of l.rest) × (l.stage ≡ Start);
}

abbrev pub decreases-loop-rest : goal.decreases-loop-rest
decreases-loop-rest l = length l.rest
