-- Which steps a fact covers.
use Rattle.std.specs.Prelude.{◌==◌, nat_lt, nat_le, Bool, ◌&&◌}
use Rattle.order_sets.specs.declared.facts.At.{At}
use Rattle.order_sets.specs.declared.facts.Fact.{Fact}
use Rattle.order_sets.specs.declared.facts.Fact.TheVariants.{Upto, Whole, Elements, One}

abbrev pub is_at : At → At → Bool
is_at a at = a.chain == at.chain && (a.cmd == at.cmd && (a.elem == at.elem && a.place == at.place))

-- Upto covers the steps of its chain at or below its place, Whole those of its command,
-- Elements those of its command's first elements, and One the one step
abbrev pub covers : Fact → At → Bool
covers (Upto chain place) at = at.chain == chain && nat_le at.place place
covers (Whole chain cmd) at = at.chain == chain && at.cmd == cmd
covers (Elements chain cmd below) at = at.chain == chain && (at.cmd == cmd && nat_lt at.elem below)
covers (One a) at = is_at a at
