use Rattle.std.proofs.Common.{◌<◌, ◌+◌, length, take, sym, ap, ◌∙◌, subst}
use Rattle.std.specs.List.{AllZip}
use Rattle.std.proofs.lemmas.List.Elements.{All-get_or}
use Rattle.cell_machine.specs.Opening.{Opening}
use Rattle.cell_machine.specs.Run.{Ran}
use Rattle.hunt_reports.specs.declared.locations.Location.{Location}
use Rattle.hunt_reports.specs.Spent.{IsLoop}
use Rattle.hunt_reports.proofs.Ends.{take_past}
use Rattle.hunt_reports.proofs.Lists.{zip_more}
use Rattle.hunt_reports.proofs.spent.spent_by.Goals as goal

pub loop_of-requires : goal.loop_of-requires
loop_of-requires c = record {
  spe = All-get_or (λ (here : Location). here.spe < length c.args.run.now.setup.entries) c.args.running.now c.loop-here.here-index _ c.loop-here-test.true c.requires.within;
  long = c.requires.long;
  spes = c.requires.spes;
}

pub loop-here-preserved : goal.loop-here-preserved
loop-here-preserved c =
    subst (AllZip (IsLoop c.args.run.now) (take (c.loop-here.here-index + 1) c.args.running.now)) (sym c.in_ok-push.ensures.items)
    (zip_more (IsLoop c.args.run.now) c.args.running.now c.loop-here.loops.items c.loop-here.here-index _ c.loop_of.result c.loop-here-test.true c.loop-here.invariant c.loop_of.ensures)

pub returns : goal.returns
returns c = record {
  change = c.requires.change;
  budget = c.budget.ensures.budget ∙ ap (λ (S : Opening). S.budget) c.setup.ensures.setup ∙ ap (λ (m : Ran). m.setup.budget) c.machine.ensures.run;
  loops = subst (λ running. AllZip (IsLoop c.args.run.now) running c.loop-here.loops.items) (take_past c.args.running.now c.loop-here.here-index c.loop-here-test.false) c.loop-here.invariant;
}
