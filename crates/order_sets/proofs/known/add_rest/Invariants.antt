use Rattle.std.proofs.Common.{◌≡◌, ◌||◌, ◌+◌, ◌≤◌, take}
use Rattle.std.specs.Prelude.{vec_len, vec_capacity}
use Rattle.std.specs.List.{list_any}
use Rattle.order_sets.specs.declared.facts.At.{At}
use Rattle.order_sets.specs.Facts.{covers}
use Rattle.order_sets.proofs.known.add_rest.Given as goal

-- the old ones and the others so far, no more than one for each of these
abbrev pub invariant-loop-f : goal.invariant-loop-f
invariant-loop-f l = record {
  has : (at : At) → list_any (λ f. covers f at) l.rest.items ≡ (list_any (λ f. covers f at) l.fn.rest.items || list_any (λ f. covers f at) (take l.f-index l.other));
  len : vec_len l.rest ≤ vec_len l.fn.rest + l.f-index;
  capacity : vec_capacity l.fn.rest ≤ vec_capacity l.rest;
}
