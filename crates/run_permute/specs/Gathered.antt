-- What is kept of a run to reorder it.
use Rattle.std.specs.Prelude.{◌≡◌, ◌+◌, length}
use Rattle.cell_machine.specs.Run.{Ran}
use Rattle.run_walk.specs.Ordered.{IsOrdered}
use Rattle.run_permute.specs.declared.needs.Needs.{Needs}
use Rattle.run_permute.specs.Needs.{AreNeeds}
use Rattle.run_permute.specs.Tracks.{AreTracks}

-- a track for each processor, and one for the host, have the steps of the run, and these are what each of the steps needs
pub record Gathers (m : Ran) (g : Needs) : Type 0 where
  pub spes : g.spes ≡ length m.setup.entries
  pub long : length g.tracks.items ≡ g.spes + 1
  pub tracks : AreTracks m (length m.steps) g.tracks.items
  pub needs : AreNeeds (IsOrdered m) (length m.steps) g.needs.items
