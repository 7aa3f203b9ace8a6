-- The run that an orderer stands for, by its trace.
use Rattle.std.specs.Prelude.{◌≡◌, ◌≤◌, length, Some}
use Rattle.cell_machine.specs.Run.{Ran}
use Rattle.cell_machine.specs.Traces.{trace_of}
use Rattle.race_order.specs.Trace.{Trace}
use Rattle.race_order.specs.declared.orderer.Orderer.{Orderer}
use Rattle.race_order.specs.Standing.{StandsFor}

-- the run has a trace, and this is so of it
pub record OnTrace (m : Ran) (IsSo : Trace → Type 0) : Type 0 where
  pub trace : Trace
  pub is : trace_of m ≡ Some trace
  pub so : IsSo trace

-- it was made for as many processors, and took each step of the run
pub record StandsForRun (o : Orderer) (m : Ran) : Type 0 where
  pub budget : m.setup.budget ≤ 1000000
  pub spes : o.spes ≡ length m.setup.entries
  pub stands : OnTrace m (StandsFor o)
