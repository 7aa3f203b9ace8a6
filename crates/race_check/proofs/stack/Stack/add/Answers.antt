use Rattle.std.proofs.Common.{◌≡◌, ◌⊎◌, sym, subst}
use Rattle.std.specs.Prelude.{◌↔◌, Contains}
use Rattle.race_check.proofs.StackLaws.{inserted}
use Rattle.race_check.proofs.stack.Stack.add.Goals as goal

pub returns : goal.returns
returns c = λ s. subst (λ xs. Contains xs s ↔ (Contains c.args.self.now.list.items s ⊎ (s ≡ c.args.step))) (sym c.in_ok-insert.ensures.items) (inserted c.args.self.now.list.items c.place_of-at.result c.args.step s)
