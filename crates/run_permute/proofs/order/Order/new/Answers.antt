use Rattle.std.proofs.Common.{◌≡◌, ◌≤◌, Bool, false, List, length, replicate, refl, sym, ap, ◌∙◌, subst, arith}
use Rattle.std.proofs.lemmas.List.{length-replicate}
use Rattle.run_permute.specs.SettledLists.{IsIn}
use Rattle.run_permute.specs.Lists.{IsRising}
use Rattle.run_permute.specs.Choices.{IsTaken, IsSeen}
use Rattle.run_permute.proofs.Frees.{seen-next}
use Rattle.run_permute.proofs.Stages.{none-taken}
use Rattle.run_permute.proofs.order.Order.new.Goals as goal

pub loop-step-init : goal.loop-step-init
loop-step-init c =
    let n = length c.args.needs.now in
    let flags : c.in_ok-vec.field-0.items ≡ replicate n false = c.in_ok-vec.ensures.items_if_clones_equal (λ y same. same) in
    record {
      steps = refl;
      sound =
          record {
            long = ap length flags ∙ length-replicate n false;
            lists = c.in_ok-no_waiters.ensures.long;
            taken = λ j. ((λ h. absurd (none-taken n j (subst (λ (taken : List Bool). IsTaken taken j) flags h))), λ h. absurd (subst (IsIn j) c.in_ok-with_capacity.ensures.items h));
            rising = subst IsRising (sym c.new.ensures.items) tt;
            ready = λ j h. absurd (subst (IsIn j) c.new.ensures.items h);
            there = λ i j h. absurd (c.in_ok-no_waiters.ensures.none i j h);
          };
      seen = λ k low. absurd (omega arith);
    }

pub loop-step-preserved : goal.loop-step-preserved
loop-step-preserved c =
    record {
      steps = c.look_at.ensures.steps ∙ c.loop-step.invariant.steps;
      sound = c.in_ok-look_at.ensures.sound;
      seen = seen-next (IsSeen c.args.needs.now c.loop-step.order) (IsSeen c.args.needs.now c.look_at.new.self) c.loop-step.step c.loop-step.invariant.seen c.in_ok-look_at.ensures.seen;
    }

pub returns-clause-stage : goal.returns-clause-stage
returns-clause-stage c =
    let all : length c.args.needs.now ≤ c.loop-step.step = c.loop-step-test.false in
    record { sound = c.loop-step.invariant.sound; seen = λ j low. c.loop-step.invariant.seen j (omega arith) }
