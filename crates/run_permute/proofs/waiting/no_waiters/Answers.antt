use Rattle.std.proofs.Common.{ℕ, ◌+◌, List, length, sym, ap, ◌∙◌, subst}
use Rattle.std.proofs.lemmas.List.{length_push}
use Rattle.run_permute.specs.SettledLists.{IsIn}
use Rattle.run_permute.specs.Lists.{list_at}
use Rattle.run_permute.specs.declared.few.Few.{Few}
use Rattle.run_permute.proofs.Waiters.{none-more}
use Rattle.run_permute.proofs.waiting.no_waiters.Goals as goal

pub loop-preserved : goal.loop-preserved
loop-preserved c =
    record {
      long = ap length c.in_ok-push.ensures.items ∙ length_push c.loop.waiting.items c.none.result ∙ ap (λ n. n + 1) c.loop.invariant.long;
      none = subst (λ (vs : List Few). (i j : ℕ) → IsIn j (list_at vs i) → ⊥) (sym c.in_ok-push.ensures.items) (none-more c.loop.waiting.items c.none.result c.none.ensures c.loop.invariant.none);
    }
