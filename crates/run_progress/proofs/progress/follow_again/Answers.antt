use Rattle.std.proofs.Common.{rules, ◌≡◌, ◌≤◌, [], length, get_or, sym, ap, ◌∙◌, subst}
use Rattle.std.specs.Prelude.{slice_get}
use Rattle.std.proofs.lemmas.Option.{slice_get-get_or}
use Rattle.cell_base.specs.declared.steps.Step.TheVariants.{Exec}
use Rattle.cell_machine.specs.Limits.{IsOpening}
use Rattle.cell_machine.specs.Run.{Ran}
use Rattle.run_progress.specs.Made.{made_of}
use Rattle.run_progress.specs.Tracks.{Follows}
use Rattle.run_progress.proofs.Replays.{first-all, first-more, made-long, made-none, may-make, run-traced}
use Rattle.run_progress.proofs.progress.follow_again.Goals as goal

pub loop-step-init : goal.loop-step-init
loop-step-init c =
    let none : made_of c.args.again.now ≡ [] = ap made_of c.requires.begun ∙ made-none c.args.machine.now in
    record {
      made = c.requires.begun;
      follows = subst (λ run. Follows (length c.args.machine.now.setup.entries) run c.args.tracks.now) (sym none) c.requires.follows;
    }

pub repeat-requires : goal.repeat-requires
repeat-requires c =
    let i = c.loop-step.step-index in
    let step = get_or c.steps-step-items.result.now i (Exec 0) in
    let at = ap (λ steps. slice_get steps i) (sym c.steps-step-items.ensures.steps) ∙ slice_get-get_or c.steps-step-items.result.now i (Exec 0) c.loop-step-test.true in
    record {
      opening = subst (λ (r : Ran). IsOpening r.setup) (sym c.loop-step.invariant.made) c.requires.opening;
      allowed = may-make c.args.machine.now i step c.loop-step.again c.steps-step-items.ensures.run c.loop-step.invariant.made at;
    }

pub loop-step-preserved : goal.loop-step-preserved
loop-step-preserved c =
    let m = c.args.machine.now in
    let i = c.loop-step.step-index in
    let step = get_or c.steps-step-items.result.now i (Exec 0) in
    let at = ap (λ steps. slice_get steps i) (sym c.steps-step-items.ensures.steps) ∙ slice_get-get_or c.steps-step-items.result.now i (Exec 0) c.loop-step-test.true in
    let before = c.loop-step.again in
    let next = c.in_ok-repeated.ensures.repeated in
    let place = search rules ∙ sym (made-long before c.steps.ensures.run) in
    record {
      made = first-more m i step before c.repeat.new.again c.loop-step.invariant.made at c.in_ok-repeated.ensures.run;
      follows = subst (λ run. Follows (length m.setup.entries) run c.follow.new.self) (sym next.more) (c.in_ok-follow.ensures (length m.setup.entries) (made_of before) next.made next.is place c.loop-step.invariant.follows);
    }

pub returns-clause-follows : goal.returns-clause-follows
returns-clause-follows c =
    let m = c.args.machine.now in
    let i = c.loop-step.step-index in
    let all = first-all m i (subst (λ steps. length steps ≤ i) c.steps-step-items.ensures.steps c.loop-step-test.false) in
    subst (λ r. Follows (length m.setup.entries) (made_of r) c.loop-step.tracks) (c.loop-step.invariant.made ∙ all) c.loop-step.invariant.follows

pub returns-clause-trace : goal.returns-clause-trace
returns-clause-trace c = run-traced c.args.machine.now c.steps-step-items.ensures.run
