use Rattle.std.proofs.Common.{ℕ, ◌⊎◌, subst}
use Rattle.std.specs.Prelude.{◌↔◌, Contains}
use Rattle.std.proofs.lemmas.List.{take_all}
use Rattle.race_check.proofs.StackLaws.{added_more, added_none}
use Rattle.race_check.proofs.stack.Stack.add_all.Goals as goal

pub loop-k-init : goal.loop-k-init
loop-k-init c = added_none c.args.self.now.list.items

pub loop-k-preserved : goal.loop-k-preserved
loop-k-preserved c = added_more c.args.self.now.list.items c.loop-k.self.list.items c.add.new.self.list.items c.args.others.now c.loop-k.k 0 c.loop-k-test.true c.loop-k.invariant c.in_ok-add.ensures

pub returns : goal.returns
returns c = subst (λ xs. (s : ℕ) → Contains c.loop-k.self.list.items s ↔ (Contains c.args.self.now.list.items s ⊎ Contains xs s)) (take_all c.loop-k.k c.args.others.now c.loop-k-test.false) c.loop-k.invariant
