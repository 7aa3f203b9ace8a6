-- The facts that the parts of a set say.
use Rattle.std.specs.Prelude.{ℕ, zero, suc, ◌+◌, ◌-◌, List, [], ◌∷◌, ◌++◌, length, flat_map}
use Rattle.order_sets.specs.declared.facts.Fact.{Fact}
use Rattle.order_sets.specs.declared.facts.Fact.TheVariants.{Upto, Whole, Elements}
use Rattle.order_sets.specs.declared.known.Known.TheInside.{Inside}
use Rattle.order_sets.specs.declared.parts.Part.{Part}
use Rattle.order_sets.specs.declared.run.Run.{Run}
use Rattle.order_sets.specs.Steps.{Steps}

-- of the chains from this one on, whose ends these are: the steps below each end
abbrev pub below_ends : ℕ → List ℕ → List Fact
below_ends chain [] = []
below_ends chain (zero ∷ ends) = below_ends (chain + 1) ends
below_ends chain (suc place ∷ ends) = Upto chain place ∷ below_ends (chain + 1) ends

-- so many commands of a chain, from this one on
abbrev pub commands : ℕ → ℕ → ℕ → List Fact
commands chain cmd zero = []
commands chain cmd (suc n) = Whole chain cmd ∷ commands chain (cmd + 1) n

abbrev pub of_run : Run → List Fact
of_run r = commands r.chain r.first (r.last + 1 - r.first)

-- the elements below this one, of so many commands of a chain, from this one on
abbrev pub elements : ℕ → ℕ → ℕ → ℕ → List Fact
elements below chain cmd zero = []
elements below chain cmd (suc n) = Elements chain cmd below ∷ elements below chain (cmd + 1) n

abbrev pub of_part : Part → List Fact
of_part p = elements p.below p.run.chain p.run.first (p.run.last + 1 - p.run.first)

abbrev pub steps_of : Inside → Steps
steps_of known = record { chains = length known.ends.items; facts = below_ends 0 known.ends.items ++ (flat_map of_run known.runs.items ++ (flat_map of_part known.parts.items ++ known.rest.items)) }
