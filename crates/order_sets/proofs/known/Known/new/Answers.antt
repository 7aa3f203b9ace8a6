use Rattle.std.proofs.Common.{◌∙◌}
use Rattle.order_sets.proofs.SeenLaws.{has_it, nothing, zeros}
use Rattle.order_sets.proofs.known.Known.new.Goals as goal

pub returns-clause-empty : goal.returns-clause-empty
returns-clause-empty c = λ at.
    has_it c.in_ok-ends.ends.items c.new.result.items c.new-2.result.items c.new-3.result.items at
    ∙ nothing _ _ _ _ at (zeros _ _ at.chain (c.in_ok-ends.ensures.items_if_clones_equal (λ y same. same))) c.new.ensures.items c.new-2.ensures.items c.new-3.ensures.items
