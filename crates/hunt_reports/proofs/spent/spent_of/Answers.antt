use Rattle.std.proofs.Common.{◌≡◌, length, map, ap, ◌∙◌, subst, Some}
use Rattle.std.specs.List.{range_with_len}
use Rattle.cell_machine.specs.Run.{Ran}
use Rattle.cell_machine.specs.Traces.{trace_of}
use Rattle.run_progress.specs.Made.{event_of, made_of}
use Rattle.run_progress.specs.Progress.{last_change, spe_progress}
use Rattle.hunt_reports.proofs.Spending.{made_long}
use Rattle.hunt_reports.proofs.spent.spent_of.Goals as goal

pub spent_by-requires : goal.spent_by-requires
spent_by-requires c =
    let run = c.machine.ensures.run in
    record {
      within = c.requires;
      long = made_long c.args.run.now (subst (λ m. trace_of m ≡ Some (map event_of (made_of m))) run c.in_ok-progress-in-Budget.ensures.trace);
      change = c.in_ok-progress-in-Budget.ensures.change ∙ ap (λ (m : Ran). last_change (made_of m)) run;
      spes = c.in_ok-progress-in-Budget.ensures.spes ∙ ap (λ (m : Ran). map (spe_progress (made_of m)) (range_with_len 0 (length m.setup.entries))) run;
    }
