-- The trace of a run as a function, for proofs. Every run has a trace, and no clause that callers see speaks of the other case.
use Rattle.std.specs.Prelude.{[]}
use Rattle.std.specs.Option.{option_map_or}
use Rattle.cell_machine.specs.Run.{Ran}
use Rattle.cell_machine.specs.Traces.{trace_of}
use Rattle.race_order.specs.Trace.{Trace}

unfoldable pub trace_in : Ran → Trace
trace_in m = option_map_or (λ trace. trace) (trace_of m) []
