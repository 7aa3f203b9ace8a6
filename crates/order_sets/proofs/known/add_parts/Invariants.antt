use Rattle.std.proofs.Common.{◌≡◌, ◌||◌, ◌+◌, ◌≤◌, take}
use Rattle.std.specs.Prelude.{vec_len, vec_capacity}
use Rattle.std.specs.List.{list_any}
use Rattle.order_sets.specs.declared.facts.At.{At}
use Rattle.order_sets.specs.Holds.{in_part}
use Rattle.order_sets.proofs.known.add_parts.Given as goal

-- the old ones and the others so far, no more than one for each of these
abbrev pub invariant-loop-i : goal.invariant-loop-i
invariant-loop-i l = record {
  has : (at : At) → list_any (in_part at) l.parts.items ≡ (list_any (in_part at) l.fn.parts.items || list_any (in_part at) (take l.i l.other));
  len : vec_len l.parts ≤ vec_len l.fn.parts + l.i;
  capacity : vec_capacity l.fn.parts ≤ vec_capacity l.parts;
}
