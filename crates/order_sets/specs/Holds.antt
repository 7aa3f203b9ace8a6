-- Which steps the parts of a set hold.
use Rattle.std.specs.Prelude.{◌≡◌, ◌+◌, ◌≤◌, ◌==◌, nat_lt, nat_le, Bool, true, not, ◌&&◌, ◌||◌, List}
use Rattle.std.specs.List.{list_any}
use Rattle.order_sets.specs.declared.facts.At.{At}
use Rattle.order_sets.specs.declared.facts.Fact.{Fact}
use Rattle.order_sets.specs.declared.facts.Fact.TheVariants.{One}
use Rattle.order_sets.specs.declared.run.Run.{Run}
use Rattle.order_sets.specs.declared.parts.Part.{Part}

abbrev pub in_run : At → Run → Bool
in_run at r = r.chain == at.chain && (nat_le r.first at.cmd && nat_le at.cmd r.last)

abbrev pub in_part : At → Part → Bool
in_part at p = in_run at p.run && nat_lt at.elem p.below

-- the outer run has all commands of the inner one
abbrev pub is_inside : Run → Run → Bool
is_inside outer inner = inner.chain == outer.chain && (nat_le outer.first inner.first && nat_le inner.last outer.last)

-- the outer part has all elements of the inner one
abbrev pub is_part_inside : Part → Part → Bool
is_part_inside outer inner = nat_le inner.below outer.below && is_inside outer.run inner.run

-- the fact is more than a step that a run or a part has
abbrev pub is_needed : List Run → List Part → Fact → Bool
is_needed runs parts (One at) = not (list_any (in_run at) runs || list_any (in_part at) parts)
is_needed runs parts _ = true

-- the two runs overlap, or the one goes on from the other
pub record Touch (a b : Run) : Type 0 where
  pub chain : a.chain ≡ b.chain
  pub first : a.first ≤ b.last + 1
  pub second : b.first ≤ a.last + 1
