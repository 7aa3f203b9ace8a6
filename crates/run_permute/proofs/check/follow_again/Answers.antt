use Rattle.std.proofs.Common.{◌≤◌, ◌+◌, [], ◌∷◌, ◌++◌, length, get_or, sym, ap, ◌∙◌, subst, true≢false, arith}
use Rattle.std.specs.Prelude.{IsSome, slice_get}
use Rattle.std.proofs.lemmas.Option.{slice_get-get_or}
use Rattle.cell_base.specs.declared.steps.Step.TheVariants.{Exec}
use Rattle.cell_machine.specs.Run.{Ran}
use Rattle.cell_machine.proofs.Same.{get-last}
use Rattle.run_walk.specs.Walks.{walked}
use Rattle.race_check.proofs.Prefixes.{first-all, first-more, may-make}
use Rattle.run_permute.specs.Settlings.{Follows}
use Rattle.run_permute.proofs.Settlings.{unsettled-told}
use Rattle.run_permute.proofs.check.follow_again.Goals as goal

pub unreachable-requires : goal.unreachable-requires
unreachable-requires c =
    let i = c.loop-step.step-index in
    let step = get_or c.steps-step-items.result.now i (Exec 0) in
    let at = ap (λ steps. slice_get steps i) (sym c.steps-step-items.ensures.steps) ∙ slice_get-get_or c.steps-step-items.result.now i (Exec 0) c.loop-step-test.true in
    let made = c.machine-in-loop-step.ensures ∙ c.loop-step.invariant.made in
    let allowed = may-make c.args.m.now i step c.machine-in-loop-step.result.now c.steps-step-items.ensures.run made at in
    true≢false (sym (subst IsSome c.in_default.is (c.effect.ensures.allowed.1 allowed)))

pub follow-requires-clause-step : goal.follow-requires-clause-step
follow-requires-clause-step c =
    let i = c.loop-step.step-index in
    let step = get_or c.steps-step-items.result.now i (Exec 0) in
    let before = walked c.loop-step.walk in
    let counted = ap length (c.steps.ensures.steps ∙ ap (λ (r : Ran). r.steps) c.machine.ensures) in
    ap (λ (r : Ran). slice_get r.steps (length c.steps.result.now)) c.in_ok-advance.ensures.run ∙ ap (slice_get (before.steps ++ step ∷ [])) counted ∙ get-last before.steps step

pub returns-then-not-is_settled_so_far : goal.returns-then-not-is_settled_so_far
returns-then-not-is_settled_so_far c =
    let m = c.args.m.now in
    let i = c.loop-step.step-index in
    let step = get_or c.steps-step-items.result.now i (Exec 0) in
    let at = ap (λ steps. slice_get steps i) (sym c.steps-step-items.ensures.steps) ∙ slice_get-get_or c.steps-step-items.result.now i (Exec 0) c.loop-step-test.true in
    let w = walked c.advance.new.self in
    let made = first-more m i step (walked c.loop-step.walk) w c.loop-step.invariant.made at c.in_ok-advance.ensures.run in
    let within : i + 1 ≤ length m.steps = subst (λ steps. i + 1 ≤ length steps) c.steps-step-items.ensures.steps (omega arith) in
    unsettled-told w m (i + 1) c.follow.new.self c.is_settled_so_far.result c.steps-step-items.ensures.run within made c.in_ok-follow.ensures.follows (c.is_settled_so_far.ensures w c.in_ok-follow.ensures.follows) c.if-not-is_settled_so_far.true

pub returns : goal.returns
returns c =
    let m = c.args.m.now in
    let i = c.loop-step.step-index in
    let all = first-all m i (subst (λ steps. length steps ≤ i) c.steps-step-items.ensures.steps c.loop-step-test.false) in
    subst (λ r. Follows r c.loop-step.settling) (c.loop-step.invariant.made ∙ all) c.loop-step.invariant.follows
