use Rattle.std.proofs.Common.{◌≡◌, ℕ, ◌<◌, List, length, sym, ap, ap₂, ◌∙◌, subst, arith}
use Rattle.cell_base.specs.declared.steps.Step.{Step}
use Rattle.cell_machine.specs.Opening.{Opening}
use Rattle.cell_machine.specs.Run.{Ran, IsRun}
use Rattle.race_check.specs.Reorderings.{at_places}
use Rattle.reorder_laws.specs.OrderedLaws.{IsOrdered}
use Rattle.run_permute.specs.SettledLists.{IsIn}
use Rattle.run_permute.proofs.Nths.{nth-within}
use Rattle.run_permute.proofs.Making.{nth-again, ends-alike}
use Rattle.run_permute.proofs.permuting.permute_by_needs.Goals as goal

pub make-requires-clause-inside : goal.make-requires-clause-inside
make-requires-clause-inside c = λ i h.
    let m = c.args.m.now in
    let low : i < length m.steps = nth-within (IsOrdered m) (length m.steps) c.args.number c.in_ok-order.order.items c.in_ok-order.ensures i (subst (IsIn i) c.deref-2.ensures.value h) in
    let long : length c.steps-steps.result.now ≡ length m.steps = ap length c.steps-steps.ensures.steps in
    omega arith

pub make-requires-clause-run : goal.make-requires-clause-run
make-requires-clause-run c =
    let m = c.args.m.now in
    let again = nth-again m c.args.number c.in_ok-order.order.items c.setup-setup.ensures.opening c.steps-steps.ensures.run c.requires.accepted c.requires.settled c.in_ok-order.ensures in
    let same = ap₂ (λ (steps : List Step) (order : List ℕ). at_places steps order) (sym c.steps-steps.ensures.steps) (sym c.deref-2.ensures.value) in
    subst (λ (setup : Opening). IsRun setup (at_places c.steps-steps.result.now c.deref-2.result.now)) (sym c.setup-setup.ensures.setup) (subst (λ (steps : List Step). IsRun m.setup steps) same again.run)

pub returns-clause-reordered : goal.returns-clause-reordered
returns-clause-reordered c =
    let is = c.in_ok-permuted.ensures in
    record {
      setup = ap (λ (r : Ran). r.setup) is ∙ c.setup-setup.ensures.setup;
      order = c.in_ok-order.order.items;
      nth = c.in_ok-order.ensures;
      steps = ap (λ (r : Ran). r.steps) is ∙ ap₂ (λ (steps : List Step) (order : List ℕ). at_places steps order) c.steps-steps.ensures.steps c.deref-2.ensures.value;
    }

pub returns-clause-ends : goal.returns-clause-ends
returns-clause-ends c =
    let m = c.args.m.now in
    let is = c.in_ok-permuted.ensures in
    let order = c.in_ok-order.order.items in
    let again = nth-again m c.args.number order c.setup-setup.ensures.opening c.steps-steps.ensures.run c.requires.accepted c.requires.settled c.in_ok-order.ensures in
    ends-alike m order c.in_ok-permuted.permuted again (ap (λ (r : Ran). r.setup) is ∙ c.setup-setup.ensures.setup) (ap (λ (r : Ran). r.steps) is ∙ ap₂ (λ (steps : List Step) (order : List ℕ). at_places steps order) c.steps-steps.ensures.steps c.deref-2.ensures.value)
