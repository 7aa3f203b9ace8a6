use Rattle.run_permute.proofs.Entries.{front-new, front-push}
use Rattle.std.proofs.Common.{ℕ, ◌⊎◌, ◌≡◌, List, sym, subst}
use Rattle.std.specs.Prelude.{◌↔◌}
use Rattle.run_permute.specs.SettledLists.{IsIn}
use Rattle.run_permute.specs.Lists.{in_front, steps_in}
use Rattle.run_permute.proofs.few.Few.push.Goals as goal

pub returns-in-None : goal.returns-in-None
returns-in-None c = λ k. front-new c.args.self.now.first c.args.self.now.rest.items c.args.step k c.in-None.is

pub returns-in_ok-push-in-Some : goal.returns-in_ok-push-in-Some
returns-in_ok-push-in-Some c = λ k.
    let old = c.args.self.now in
    subst (λ (xs : List ℕ). IsIn k (in_front old.first xs) ↔ (IsIn k (steps_in old) ⊎ (k ≡ c.args.step))) (sym c.in_ok-push-in-Some.ensures.items) (front-push old.first old.rest.items c.args.step k)
