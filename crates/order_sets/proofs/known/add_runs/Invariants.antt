use Rattle.std.proofs.Common.{◌≡◌, ◌||◌, ◌+◌, ◌≤◌, take}
use Rattle.std.specs.Prelude.{vec_len, vec_capacity}
use Rattle.std.specs.List.{list_any}
use Rattle.order_sets.specs.declared.facts.At.{At}
use Rattle.order_sets.specs.Holds.{in_run}
use Rattle.order_sets.proofs.known.add_runs.Given as goal

-- the old ones and the others so far, no more than one for each of these
abbrev pub invariant-loop-i : goal.invariant-loop-i
invariant-loop-i l = record {
  has : (at : At) → list_any (in_run at) l.runs.items ≡ (list_any (in_run at) l.fn.runs.items || list_any (in_run at) (take l.i l.other));
  len : vec_len l.runs ≤ vec_len l.fn.runs + l.i;
  capacity : vec_capacity l.fn.runs ≤ vec_capacity l.runs;
}
