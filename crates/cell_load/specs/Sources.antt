-- The sources of a machine file, each with its processor.
use Rattle.std.specs.Prelude.{ℕ, ◌+◌, ◌-◌, List, [], ◌∷◌, ◌++◌, string_bytes}
use Rattle.cell_load.specs.declared.source.SourceName.{SourceName}
use Rattle.cell_load.specs.Entries.{Entry, Spe, Source}

pub record Named : Type 0 where
  pub spe : ℕ
  pub name : List ℕ

abbrev pub named : SourceName → Named
named s = record { spe = s.spe; name = string_bytes s.name }

-- how many processors came by the end of a line, where so many came before
abbrev pub spes_after : ℕ → Entry → ℕ
spes_after spes Spe = spes + 1
spes_after spes other = spes

-- how many processors these lines begin
unfoldable pub spes_in : List Entry → ℕ
spes_in [] = 0
spes_in (entry ∷ entries) = spes_after (spes_in entries) entry

-- the source that a line names, of the latest processor before it
abbrev pub source_of : ℕ → Entry → List Named
source_of spes (Source name) = record { spe = spes - 1; name = name } ∷ []
source_of spes other = []

-- the sources of these lines, where so many processors came before
unfoldable pub sources_from : ℕ → List Entry → List Named
sources_from spes [] = []
sources_from spes (entry ∷ entries) = source_of spes entry ++ sources_from (spes_after spes entry) entries

-- the sources of a machine file in the order of its lines, each with its processor
abbrev pub sources_of : List Entry → List Named
sources_of entries = sources_from 0 entries
