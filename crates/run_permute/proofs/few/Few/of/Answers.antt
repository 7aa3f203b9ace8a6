use Rattle.std.proofs.Common.{◌∷◌, ◌++◌, List, ℕ, sym, ap, ◌∙◌}
use Rattle.run_permute.proofs.Entries.{empty}
use Rattle.run_permute.proofs.few.Few.of.Goals as goal

pub returns-in_default : goal.returns-in_default
returns-in_default c = c.none.ensures ∙ empty c.args.steps.now c.in_default.ensures.cases

pub returns : goal.returns
returns c =
    let first = c.in-Some.first.now in
    let others = c.in-Some.others.now in
    ap (λ (xs : List ℕ). first ∷ xs) (c.in_ok-extend_from_slice.ensures.items ∙ ap (λ (xs : List ℕ). xs ++ others) c.in_ok-rest.ensures.items) ∙ sym c.in-Some.ensures.cases.0
