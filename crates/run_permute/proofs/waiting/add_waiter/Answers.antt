use Rattle.std.proofs.Common.{◌≡◌, ℕ, List, sym, subst, ◌⊎◌}
use Rattle.std.specs.Prelude.{◌↔◌}
use Rattle.run_permute.specs.SettledLists.{IsIn}
use Rattle.run_permute.specs.Lists.{list_at, steps_in}
use Rattle.run_permute.proofs.Entries.{list-get, list-set, list-other}
use Rattle.run_permute.proofs.waiting.add_waiter.Goals as goal

pub returns-clause-here : goal.returns-clause-here
returns-clause-here c = λ k.
    let was = list-get c.args.waiting.now c.args.i c.index-waiting-i.result c.requires in
    let is = list-set c.args.waiting.now c.args.i c.push.new.self c.requires in
    subst (λ (xs : List ℕ). IsIn k xs ↔ (IsIn k (list_at c.args.waiting.now c.args.i) ⊎ (k ≡ c.args.j))) (sym is)
    (subst (λ (xs : List ℕ). IsIn k (steps_in c.push.new.self) ↔ (IsIn k xs ⊎ (k ≡ c.args.j))) (sym was) (c.in_ok-push.ensures k))

pub returns-clause-others : goal.returns-clause-others
returns-clause-others c = λ a other. list-other c.args.waiting.now c.args.i a c.push.new.self other
