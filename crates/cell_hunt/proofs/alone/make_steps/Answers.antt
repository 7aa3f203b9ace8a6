use Rattle.std.proofs.Common.{◌≡◌, ◌+◌, ◌≤◌, length, ◌∙◌, ap, arith, rules}
use Rattle.std.proofs.lemmas.List.{length_push}
use Rattle.cell_machine.specs.Run.{Ran}
use Rattle.cell_hunt.proofs.Making.{continues-end, continues-more}
use Rattle.cell_hunt.proofs.Overs.{over-spent}
use Rattle.cell_hunt.proofs.alone.make_steps.Goals as goal

pub returns-in_default-clause-goes : goal.returns-in_default-clause-goes
returns-in_default-clause-goes c = continues-end _ _ _ _ c.in_default.ensures.none c.loop-place.invariant.chosen

pub loop-place-preserved : goal.loop-place-preserved
loop-place-preserved c =
    let m = c.loop-place.machine in
    let made = c.in-Ok.ensures.made.1 in
    let longer : length c.step.new.self.steps ≡ length m.steps + 1 = ap (λ (r : Ran). length r.steps) made ∙ length_push m.steps c.in-Some.step in
    record {
      setup = ap (λ (r : Ran). r.setup) made ∙ c.loop-place.invariant.setup;
      made = omega (arith, longer, c.loop-place.invariant.made);
      chosen = continues-more _ _ c.loop-place.chooser c.next.new.self m c.step.new.self c.in-Some.step c.in-Some.ensures.chosen made c.loop-place.invariant.chosen;
    }

pub returns-clause-goes : goal.returns-clause-goes
returns-clause-goes c =
    let m = c.loop-place.machine in
    let budget : m.setup.budget ≤ c.loop-place.place = search rules in
    continues-end _ _ _ _ (over-spent m (omega (arith, budget, c.loop-place.invariant.made))) c.loop-place.invariant.chosen
