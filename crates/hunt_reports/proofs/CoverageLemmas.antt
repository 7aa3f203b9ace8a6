-- The sources of a machine file, one after the other.
use Rattle.std.proofs.Common.{◌≡◌, ℕ, ◌+◌, ◌<◌, ◌≤◌, List, [], ◌∷◌, ◌++◌, length, drop, get_or, sym, ap, subst, ◌∙◌, append_assoc, append-nil}
use Rattle.std.proofs.lemmas.List.{drop_all, drop_more}
use Rattle.hunt_tally.specs.Coverage.{SourceLines}
use Rattle.hunt_reports.specs.declared.origins.Places.{Places}
use Rattle.hunt_reports.specs.declared.origins.Source.{Source}
use Rattle.hunt_reports.specs.Coverage.{coverage_from, some_source}

-- one source more
pub source_more : (places : Places) (executed : List ℕ) (ys xs : List Source) (out new whole : List SourceLines) (i : ℕ) (d : Source) → ys ≡ xs → i < length ys
    → new ≡ out ++ some_source places executed i (get_or ys i d) → out ++ coverage_from places executed i (drop i xs) ≡ whole
    → new ++ coverage_from places executed (i + 1) (drop (i + 1) xs) ≡ whole
unfolding coverage_from
source_more places executed ys xs out new whole i d same inside wrote so_far =
    let rest : List SourceLines = coverage_from places executed (i + 1) (drop (i + 1) xs) in
    let here : drop i xs ≡ get_or xs i d ∷ drop (i + 1) xs = drop_more xs i d (subst (λ zs. i < length zs) same inside) in
    ap (λ t. t ++ rest) (wrote ∙ ap (λ zs. out ++ some_source places executed i (get_or zs i d)) same) ∙ append_assoc out (some_source places executed i (get_or xs i d)) rest
    ∙ ap (λ zs. out ++ coverage_from places executed i zs) (sym here) ∙ so_far

-- all sources
pub sources_done : (places : Places) (executed : List ℕ) (ys xs : List Source) (out whole : List SourceLines) (i : ℕ) → ys ≡ xs → length ys ≤ i
    → out ++ coverage_from places executed i (drop i xs) ≡ whole → out ≡ whole
unfolding coverage_from
sources_done places executed ys xs out whole i same past so_far =
    let none : drop i xs ≡ [] = drop_all i xs (subst (λ zs. length zs ≤ i) same past) in
    sym (append-nil out) ∙ ap (λ zs. out ++ coverage_from places executed i zs) (sym none) ∙ so_far
