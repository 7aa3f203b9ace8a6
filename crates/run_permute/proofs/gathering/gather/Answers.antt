use Rattle.std.proofs.Common.{◌≤◌, [], ◌∷◌, ◌++◌, length, get_or, sym, ap, ◌∙◌, subst, true≢false}
use Rattle.std.specs.Prelude.{IsSome, slice_get}
use Rattle.std.proofs.lemmas.Option.{slice_get-get_or}
use Rattle.cell_base.specs.declared.steps.Step.TheVariants.{Exec}
use Rattle.cell_machine.specs.Run.{Ran}
use Rattle.cell_machine.proofs.Same.{get-last}
use Rattle.run_walk.specs.Walks.{walked}
use Rattle.race_check.proofs.Prefixes.{first-all, may-make}
use Rattle.run_permute.specs.Gathered.{Gathers}
use Rattle.run_permute.proofs.gathering.gather.Goals as goal

pub unreachable-requires : goal.unreachable-requires
unreachable-requires c =
    let i = c.loop-step.step-index in
    let step = get_or c.steps-step-items.result.now i (Exec 0) in
    let at = ap (λ steps. slice_get steps i) (sym c.steps-step-items.ensures.steps) ∙ slice_get-get_or c.steps-step-items.result.now i (Exec 0) c.loop-step-test.true in
    let made = c.machine-in-loop-step.ensures ∙ c.loop-step.invariant.made in
    let allowed = may-make c.args.m.now i step c.machine-in-loop-step.result.now c.steps-step-items.ensures.run made at in
    true≢false (sym (subst IsSome c.in_default.is (c.effect.ensures.allowed.1 allowed)))

pub follow-requires-clause-step : goal.follow-requires-clause-step
follow-requires-clause-step c =
    let i = c.loop-step.step-index in
    let step = get_or c.steps-step-items.result.now i (Exec 0) in
    let before = walked c.loop-step.walk in
    let counted = ap length (c.steps.ensures.steps ∙ ap (λ (r : Ran). r.steps) c.machine.ensures) in
    ap (λ (r : Ran). slice_get r.steps (length c.steps.result.now)) c.in_ok-advance.ensures.run ∙ ap (slice_get (before.steps ++ step ∷ [])) counted ∙ get-last before.steps step

pub returns : goal.returns
returns c =
    let m = c.args.m.now in
    let i = c.loop-step.step-index in
    let all = first-all m i (subst (λ steps. length steps ≤ i) c.steps-step-items.ensures.steps c.loop-step-test.false) in
    subst (λ r. Gathers r c.loop-step.needs) (c.loop-step.invariant.made ∙ all) c.loop-step.invariant.gathers
