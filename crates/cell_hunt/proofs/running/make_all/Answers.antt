use Rattle.std.proofs.Common.{◌≡◌, ◌+◌, ◌≤◌, length, ◌∙◌, ap, subst, arith, rules}
use Rattle.std.proofs.lemmas.List.{length_push}
use Rattle.cell_machine.specs.Run.{Ran}
use Rattle.cell_hunt.specs.Choices.{IsChosen}
use Rattle.cell_hunt.specs.Ends.{IsOver}
use Rattle.cell_hunt.specs.SoFar.{made_by}
use Rattle.cell_hunt.proofs.Making.{continues-end, continues-more}
use Rattle.cell_hunt.proofs.Overs.{over-spent}
use Rattle.cell_hunt.proofs.running.make_all.Goals as goal

pub returns-in_default-clause-goes : goal.returns-in_default-clause-goes
returns-in_default-clause-goes c = continues-end _ _ _ _ (subst IsOver c.machine-machine.ensures c.in_default.ensures.none) c.loop-place.invariant.chosen

pub loop-place-preserved : goal.loop-place-preserved
loop-place-preserved c =
    let m = made_by c.loop-place.so_far in
    let longer : length (made_by c.advance.new.self).steps ≡ length m.steps + 1 = ap (λ (r : Ran). length r.steps) c.in_ok-advance.ensures.run ∙ length_push m.steps c.in-Some.step in
    record {
      searched = c.in_ok-advance.ensures.searched;
      setup = ap (λ (r : Ran). r.setup) c.in_ok-advance.ensures.run ∙ c.loop-place.invariant.setup;
      made = omega (arith, longer, c.loop-place.invariant.made);
      chosen = continues-more _ _ c.loop-place.chooser c.next.new.self m (made_by c.advance.new.self) c.in-Some.step
          (subst (λ r. IsChosen r c.loop-place.chooser c.in-Some.step c.next.new.self) c.machine-machine.ensures c.in-Some.ensures.chosen) c.in_ok-advance.ensures.run c.loop-place.invariant.chosen;
    }

pub returns-clause-goes : goal.returns-clause-goes
returns-clause-goes c =
    let m = made_by c.loop-place.so_far in
    let budget : m.setup.budget ≤ c.loop-place.place = search rules in
    continues-end _ _ _ _ (over-spent m (omega (arith, budget, c.loop-place.invariant.made))) c.loop-place.invariant.chosen
