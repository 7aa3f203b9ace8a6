use Rattle.std.proofs.Common.{ℕ, List, get_or, ◌∙◌, subst, ◌⊎◌}
use Rattle.std.proofs.lemmas.List.{take_all}
use Rattle.run_permute.specs.SettledLists.{IsIn}
use Rattle.run_permute.specs.Choices.{IsSeen}
use Rattle.run_permute.proofs.Entries.{in-get}
use Rattle.run_permute.proofs.Frees.{seen-more}
use Rattle.run_permute.proofs.order.Order.look_at_all.Goals as goal

pub look_at-requires-clause-within : goal.look_at-requires-clause-within
look_at-requires-clause-within c = c.requires.within (get_or c.args.steps.now c.loop-step.step-index 0) (in-get c.args.steps.now c.loop-step.step-index c.loop-step-test.true)

pub loop-step-preserved : goal.loop-step-preserved
loop-step-preserved c =
    let needs = c.args.needs.now in
    record {
      steps = c.look_at.ensures.steps ∙ c.loop-step.invariant.steps;
      sound = c.in_ok-look_at.ensures.sound;
      seen = seen-more (IsSeen needs c.args.self.now) (IsSeen needs c.loop-step.self) (IsSeen needs c.look_at.new.self) c.args.steps.now c.loop-step.step-index c.loop-step-test.true c.loop-step.invariant.seen c.in_ok-look_at.ensures.seen;
    }

pub returns-clause-seen : goal.returns-clause-seen
returns-clause-seen c =
    subst (λ (xs : List ℕ). (k : ℕ) → IsSeen c.args.needs.now c.args.self.now k ⊎ IsIn k xs → IsSeen c.args.needs.now c.loop-step.self k) (take_all c.loop-step.step-index c.args.steps.now c.loop-step-test.false) c.loop-step.invariant.seen
