-- What goes into a set at once.
use Rattle.std.specs.Prelude.{◌||◌, ℕ, Bool, false, Option, Some, None, IfSome}
use Rattle.order_sets.specs.declared.facts.At.{At}
use Rattle.order_sets.specs.declared.facts.Fact.{Fact}
use Rattle.order_sets.specs.Facts.{covers}
use Rattle.race_order.specs.declared.brought.Brought.{Brought}
use Rattle.race_order.specs.Bringing.{has_brought}
use Rattle.race_order.specs.Tables.{FitsChains}

-- the fact, where there is one, covers the step
abbrev pub some_covers : Option Fact → At → Bool
some_covers None at = false
some_covers (Some fact) at = covers fact at

-- what a step brings, and what one more fact covers
abbrev pub has_gain : Brought → Option Fact → At → Bool
has_gain b None at = has_brought b at
has_gain b (Some fact) at = has_brought b at || covers fact at

-- the fact, where there is one, is of one of so many chains
abbrev pub SomeFits : ℕ → Option Fact → Type 0
SomeFits chains more = IfSome more (λ fact. FitsChains chains fact)
