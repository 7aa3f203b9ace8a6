use Rattle.std.proofs.Common.{◌≡◌, ◌-◌, ℕ, Bool, length, Some}
use Rattle.std.specs.Prelude.{◌↔◌, IsTrue, slice_get}
use Rattle.race_order.specs.OrderedRuns.{OnTrace}
use Rattle.race_order.specs.Rules.{Rule, Ordered}
use Rattle.trace_commands.proofs.before.marks_of.Given as goal

abbrev pub ghost-is_before : goal.ghost-is_before
ghost-is_before g a = g.m

-- the marks so far are right
abbrev pub invariant-loop-place : goal.invariant-loop-place
invariant-loop-place g l = record {
  count : length l.marks.items ≡ l.place;
  exact : (i : ℕ) (b : Bool) → slice_get l.marks.items i ≡ Some b → OnTrace g.m (λ trace. IsTrue b ↔ Ordered Rule trace i (length g.m.steps - 1));
}
