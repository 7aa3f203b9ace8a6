use Rattle.std.proofs.Common.{◌∙◌, [], refl, arith}
use Rattle.race_order.proofs.OrderedRuns.{both, stands-first}
use Rattle.race_order.proofs.orderer.Orderer.new.Goals as goal

pub returns : goal.returns
returns c = record {
  stands = both _ _ _ c.of_processors.result c.of_processors.ensures.stands c.of_processors.ensures.spes
      (λ o st same. stands-first o (record { setup = c.args.setup.now; steps = [] }) refl (let few = c.budget-budget.ensures.few in let is = c.budget-budget.ensures.budget in omega arith) st (same ∙ c.spes-spes.ensures.count));
}
