use Rattle.std.proofs.Common.{◌≡◌}
use Rattle.std.specs.Prelude.{is_some}
use Rattle.race_check.specs.Searches.{IsClear, run_of}
use Rattle.cell_commands.specs.Judging.{MayLookAt}
use Rattle.cell_commands.proofs.Fronts.{front}
use Rattle.cell_commands.proofs.judging.search_steps.Given as goal

-- the first steps were made, and none of them races with an earlier one
abbrev pub invariant-loop-step : goal.invariant-loop-step
invariant-loop-step l =
    record {
      made : run_of l.search ≡ front (run_of l.fn.search).setup l.steps l.step-index;
      clear : IsClear l.search;
      looks : MayLookAt (run_of l.search) l.looks;
      some : is_some l.looks ≡ is_some l.fn.looks;
    }
