use Rattle.std.proofs.Common.{◌≡◌, ◌⊎◌, List, ℕ, sym, subst}
use Rattle.std.specs.Prelude.{◌↔◌}
use Rattle.std.specs.List.Sorted.{IsBinarySearchResult}
use Rattle.std.specs.Ordering.{nat_cmp}
use Rattle.run_permute.specs.SettledLists.{IsIn}
use Rattle.run_permute.specs.Lists.{IsRising}
use Rattle.run_permute.proofs.Entries.{in-insert}
use Rattle.run_permute.proofs.Frees.{put-rising, put-found, found-in}
use Rattle.run_permute.proofs.order.put.Goals as goal

pub returns-in-Ok-clause-put : goal.returns-in-Ok-clause-put
returns-in-Ok-clause-put c =
    let found = subst (λ xs. IsBinarySearchResult (λ y. nat_cmp y c.args.place) xs c.binary_search.result) c.deref.ensures.value c.binary_search.ensures.position in
    put-found c.args.places.now.items c.args.place (found-in c.args.places.now.items c.args.place c.binary_search.result _ c.requires found c.in-Ok.is)

pub returns-in_ok-insert-in-Err-clause-rising : goal.returns-in_ok-insert-in-Err-clause-rising
returns-in_ok-insert-in-Err-clause-rising c =
    let found = subst (λ xs. IsBinarySearchResult (λ y. nat_cmp y c.args.place) xs c.binary_search.result) c.deref.ensures.value c.binary_search.ensures.position in
    subst IsRising (sym c.in_ok-insert-in-Err.ensures.items) (put-rising c.args.places.now.items c.args.place c.binary_search.result c.in-Err.at c.requires found c.in-Err.is)

pub returns-in_ok-insert-in-Err-clause-put : goal.returns-in_ok-insert-in-Err-clause-put
returns-in_ok-insert-in-Err-clause-put c = λ k.
    subst (λ (xs : List ℕ). IsIn k xs ↔ (IsIn k c.args.places.now.items ⊎ (k ≡ c.args.place))) (sym c.in_ok-insert-in-Err.ensures.items) (in-insert c.args.places.now.items c.in-Err.at c.args.place k)
