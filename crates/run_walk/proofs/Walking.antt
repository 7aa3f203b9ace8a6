-- What a walk tells of its run.
use Rattle.std.proofs.Common.{◌≡◌, ◌≤◌, ℕ, Bool, subst, sym}
use Rattle.std.specs.Prelude.{◌↔◌, IsTrue, Some}
use Rattle.cell_machine.specs.Run.{Ran}
use Rattle.cell_machine.specs.Traces.{trace_of}
use Rattle.race_order.specs.OrderedRuns.{OnTrace}
use Rattle.race_order.specs.Rules.{Rule, Ordered}
use Rattle.race_order.specs.Told.{trace_in}
use Rattle.race_order.proofs.OrderedRuns.{run-told, trace-is}
use Rattle.run_walk.specs.declared.walk.Walk.{Walk}
use Rattle.run_walk.specs.Ordered.{IsOrdered}
use Rattle.run_walk.specs.Walks.{Stands, walked}

-- what a test says of the trace it says of the run
pub says-ordered : (m : Ran) (i j : ℕ) (b : Bool) → OnTrace m (λ trace. IsTrue b ↔ Ordered Rule trace i j) → IsTrue b ↔ IsOrdered m i j
says-ordered m i j b o = subst (λ trace. IsTrue b ↔ Ordered Rule trace i j) (sym (trace-is m o.trace o.is)) o.so

-- its run has the trace that is told
pub walk-told : (w : Walk) → Stands w → trace_of (walked w) ≡ Some (trace_in (walked w))
unfolding Stands
walk-told w stands = run-told w.orderer (walked w) stands

-- its budget is that of a machine
pub walk-few : (w : Walk) → Stands w → (walked w).setup.budget ≤ 1000000
unfolding Stands
walk-few w stands = stands.budget
