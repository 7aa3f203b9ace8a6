-- A set of steps, as contracts see it.
use Rattle.std.specs.Prelude.{ℕ, List}
use Rattle.order_sets.specs.declared.facts.Fact.{Fact}

-- how many chains the set is for, and facts: the set has the steps that one of them covers
pub record Steps : Type 0 where
  pub chains : ℕ
  pub facts : List Fact
