-- Which steps a set has, and the facts for which it stands.
use Rattle.std.specs.Prelude.{◌≡◌, ◌<◌, Bool, List, ⊤}
use Rattle.std.specs.List.{list_any}
use Rattle.order_sets.specs.declared.facts.At.{At}
use Rattle.order_sets.specs.declared.facts.Fact.{Fact}
use Rattle.order_sets.specs.declared.facts.Fact.TheVariants.{Upto}
use Rattle.order_sets.specs.declared.known.Known.{Known}
use Rattle.order_sets.specs.Facts.{covers}

-- the fact is of a chain that the set has
abbrev pub Fits : Known → Fact → Type 0
Fits known (Upto chain place) = chain < known.chains
Fits known _ = ⊤

-- the two sets were made for the same number of processors
abbrev pub AreAlike : Known → Known → Type 0
AreAlike a b = a.chains ≡ b.chains

-- the set has the step
abbrev pub has_at : Known → At → Bool
has_at known at = list_any (λ f. covers f at) known.facts

-- the set stands for the facts: it has what one of them covers
abbrev pub StandsFor : Known → List Fact → Type 0
StandsFor known facts = (at : At) → has_at known at ≡ list_any (λ f. covers f at) facts
