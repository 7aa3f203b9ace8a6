-- What the adapters do to a reader and a writer that tell their bytes.
use Rattle.std.specs.Prelude.{ℕ, ◌+◌, ◌≡◌, List, length, take, Option, Some, None, Result, Ok, Err}
use Rattle.std.specs.Io.KnownBytes.{Appends}
use Rattle.cell_io.specs.Files.{File}
use Rattle.cell_io.specs.Store.{Adds}
use Rattle.cell_io.specs.declared.store.Fetched.{Fetched}
use Rattle.cell_io.specs.declared.store.Fetched.TheVariants.{TooLong}
use Rattle.cell_io.specs.declared.store.FetchFault.{FetchFault}

-- what the system's files are told to be: nothing
abbrev pub untold : Option (List File)
untold = None

-- of a reader with these bytes left, a fetch adds them as a file's
abbrev pub IfTold : Option (List ℕ) → ℕ → List ℕ → List ℕ → Result Fetched FetchFault → Type 0
IfTold None limit old new result = Unit {0}
IfTold (Some bytes) limit old new result = Adds (Some bytes) limit old new result

-- a file is said to be too long only after one byte more than the limit was read of it and added
abbrev pub ReadsPast : ℕ → List ℕ → List ℕ → Result Fetched FetchFault → Type 0
ReadsPast limit old new (Ok TooLong) = length new ≡ length old + limit + 1
ReadsPast limit old new other = Unit {0}

-- what a writer holds, where it tells that, and how often it has failed
pub record Written : Type 0 where
  pub held : Option (List ℕ)
  pub faults : ℕ

-- what a writer holds grew by the piece, or after a fault by a part of it from its start
abbrev pub Writes : {T E : Type 0} → Option (List ℕ) → Option (List ℕ) → List ℕ → Result T E → Type 0
Writes old new piece (Ok done) = Appends old new piece
Writes old new piece (Err fault) = (n : ℕ) × Appends old new (take n piece)
