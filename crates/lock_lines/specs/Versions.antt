-- Reservations by versions: how many stores touched each line, and which line each processor reserved, at which of its versions.
use Rattle.std.specs.Prelude.{ℕ, ◌+◌, ◌==◌, ◌&&◌, Bool, false, if◌then◌else◌, List, Option, Some, None, replicate, slice_index_or, slice_set}
use Rattle.std.specs.Option.{option_and_then, option_map, option_map_or}

-- a line, with the version that it had when it was reserved
pub record Reserved : Type 0 where
  pub line : ℕ
  pub version : ℕ

-- the version of each line, and the reservation of each processor
pub record Versions : Type 0 where
  pub lines : List ℕ
  pub spes : List (Option Reserved)

-- every line at version 0, and no reservation; unfoldable, so that a great number of lines is never computed
unfoldable pub opening_versions : ℕ → ℕ → Versions
opening_versions lines spes = record { lines = replicate lines 0; spes = replicate spes None }

abbrev pub version_of : List ℕ → ℕ → ℕ
version_of lines line = slice_index_or lines line 0

abbrev pub reserved_by : Versions → ℕ → Option Reserved
reserved_by v p = slice_index_or v.spes p None

-- whether the reservation is of the line, which has the same version still
abbrev pub is_current : List ℕ → ℕ → Reserved → Bool
is_current lines line r = r.line == line && r.version == version_of lines line

-- whether processor p holds the line
unfoldable pub is_reserved : Versions → ℕ → ℕ → Bool
is_reserved v p line = option_map_or (is_current v.lines line) (reserved_by v p) false

-- the line that it is of, where that has the same version still
abbrev pub current_line : List ℕ → Reserved → Option ℕ
current_line lines r = if is_current lines r.line r then Some r.line else None

-- the line that processor p holds
abbrev pub line_held : Versions → ℕ → Option ℕ
line_held v p = option_and_then (current_line v.lines) (reserved_by v p)

-- the line that processor p reserved, whatever its version is now
abbrev pub line_reserved : Versions → ℕ → Option ℕ
line_reserved v p = option_map (λ r. r.line) (reserved_by v p)

-- a store raises the version of its line
abbrev pub raised : List ℕ → ℕ → List ℕ
raised lines line = slice_set lines line (version_of lines line + 1)

abbrev pub stored_to : ℕ → Versions → Versions
stored_to line v = record v { lines = raised v.lines line }

abbrev pub reserving : ℕ → Option Reserved → Versions → Versions
reserving p r v = record v { spes = slice_set v.spes p r }

-- a GETLLAR reserves the line at its present version
abbrev pub got : ℕ → ℕ → Versions → Versions
got p line v = reserving p (Some (record { line = line; version = version_of v.lines line })) v

-- a PUTLLC gives up the reservation and, where its processor held the line, stores to it
abbrev pub put : ℕ → ℕ → Versions → Versions
put p line v = reserving p None (if is_reserved v p line then stored_to line v else v)
