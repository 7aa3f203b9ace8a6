use Rattle.std.proofs.Common.{◌≡◌, ◌||◌, true, take}
use Rattle.std.specs.List.{list_any}
use Rattle.order_sets.specs.declared.facts.At.{At}
use Rattle.order_sets.specs.Holds.{in_part}
use Rattle.order_sets.proofs.parts.grown.Given as goal

-- the part so far has the part, and nothing but that and the parts so far
abbrev pub invariant-loop-p : goal.invariant-loop-p
invariant-loop-p l = (at : At) → (in_part at l.fn.part ≡ true → in_part at l.whole ≡ true) × (in_part at l.whole ≡ true → (list_any (in_part at) (take l.p-index l.parts) || in_part at l.fn.part) ≡ true)
