use Rattle.std.proofs.Common.{◌≤◌, ◌+◌, length, get_or, sym, ap, ◌∙◌, subst, true≢false}
use Rattle.std.specs.Prelude.{IsSome, slice_get}
use Rattle.std.proofs.lemmas.Option.{slice_get-get_or}
use Rattle.cell_base.specs.declared.steps.Step.TheVariants.{Exec}
use Rattle.race_check.specs.declared.check.Verdict.TheVariants.{Accepted}
use Rattle.race_check.specs.Races.{IsVerdict}
use Rattle.race_check.specs.Reorderings.{EveryReorderingAgrees}
use Rattle.race_check.specs.Searches.{run_of}
use Rattle.race_check.proofs.Accepted.{raced-whole}
use Rattle.race_check.proofs.Prefixes.{first-all, first-more, may-make}
use Rattle.race_check.proofs.check.search_again.Goals as goal

pub unreachable-requires : goal.unreachable-requires
unreachable-requires c =
    let at = ap (λ steps. slice_get steps c.loop-step.step-index) (sym c.steps-step-items.ensures.steps) ∙ slice_get-get_or c.steps-step-items.result.now c.loop-step.step-index (Exec 0) c.loop-step-test.true in
    let made = c.machine.ensures ∙ c.loop-step.invariant.made in
    let allowed = may-make c.args.m.now c.loop-step.step-index (get_or c.steps-step-items.result.now c.loop-step.step-index (Exec 0)) c.machine.result.now c.steps-step-items.ensures.run made at in
    true≢false (sym (subst IsSome c.in_default.is (c.effect.ensures.allowed.1 allowed)))

pub returns-in-Race-clause-verdict : goal.returns-in-Race-clause-verdict
returns-in-Race-clause-verdict c =
    let m = c.args.m.now in
    let j = c.loop-step.step-index in
    let at = ap (λ steps. slice_get steps j) (sym c.steps-step-items.ensures.steps) ∙ slice_get-get_or c.steps-step-items.result.now j (Exec 0) c.loop-step-test.true in
    let made = first-more m j (get_or c.steps-step-items.result.now j (Exec 0)) (run_of c.loop-step.search) (run_of c.advance.new.self) c.loop-step.invariant.made at c.in_ok-verdict.ensures.run in
    let raced = raced-whole m (run_of c.advance.new.self) (j + 1) c.in-Race.first c.in-Race.second c.steps-step-items.ensures.run made (subst (IsVerdict (run_of c.advance.new.self)) c.in-Race.is c.in_ok-verdict.ensures.verdict) in
    subst (IsVerdict m) (sym c.in-Race.is) raced

pub returns-clause-verdict : goal.returns-clause-verdict
returns-clause-verdict c =
    let all = first-all c.args.m.now c.loop-step.step-index (subst (λ steps. length steps ≤ c.loop-step.step-index) c.steps-step-items.ensures.steps c.loop-step-test.false) in
    subst (λ m. IsVerdict m Accepted) (c.loop-step.invariant.made ∙ all) c.loop-step.invariant.clear.accepted

pub returns-clause-agree : goal.returns-clause-agree
returns-clause-agree c = λ same.
    (let all = first-all c.args.m.now c.loop-step.step-index (subst (λ steps. length steps ≤ c.loop-step.step-index) c.steps-step-items.ensures.steps c.loop-step-test.false) in
    subst EveryReorderingAgrees (c.loop-step.invariant.made ∙ all) c.loop-step.invariant.clear.agree)
