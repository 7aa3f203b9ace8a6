use Rattle.std.proofs.Common.{◌≡◌, ℕ, List, [], drop, take, map, length, Option, Some}
use Rattle.cell_io.specs.Files.{File}
use Rattle.cell_io.specs.Store.{Ledger}
use Rattle.spu_asm.specs.Images.{Image}
use Rattle.cell_load.specs.Sources.{Named, named}
use Rattle.cell_commands.specs.Task.{Task}
use Rattle.cell_commands.specs.Forms.{sources_task}
use Rattle.cell_commands.specs.Answer.{Leads}
use Rattle.hunt_reports.specs.declared.origins.Source.{Source}
use Rattle.hunt_command.specs.Sources.{AreSources}
use Rattle.hunt_command.proofs.sources.read_sources.Given as goal

pub record SoFar (before now : Option (List File)) (old new : Ledger) (names : List Named) (images : List Image) (sources : List Source) (number at : ℕ) : Type 0 where
  pub count : number ≡ at
  pub made : length images ≡ at
  pub same : now ≡ before
  pub kept : new ≡ old
  -- the sources that are left settle what all settle
  pub leads : (told : List File) → before ≡ Some told → (next : List Image → Task) → Leads told (sources_task 0 names [] next) (sources_task at (drop at names) images next)
  pub listed : (told : List File) → before ≡ Some told → AreSources told (take at names) sources

abbrev pub invariant-loop-source : goal.invariant-loop-source
invariant-loop-source g l =
    SoFar (g.T.Store.files l.fn.files) (g.T.Store.files l.files) (g.T.Store.ledger l.fn.files) (g.T.Store.ledger l.files) (map named l.names) l.sources.images.items l.sources.listed.items l.number l.source-index
