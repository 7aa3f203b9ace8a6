-- The main memory of the written machine, and what a store does to it.
use Rattle.std.specs.Prelude.{ℕ, ◌/◌, List, length}
use Rattle.cell_base.specs.Bytes.{put}
use Rattle.lock_lines.specs.Versions.{raised}

pub record MainMemory : Type 0 where
  pub bytes : List ℕ  -- 128 a line
  pub versions : List ℕ  -- of each line, how many stores have touched it

-- how many lines it has
abbrev pub lines_of : MainMemory → ℕ
lines_of memory = length memory.bytes / 128

-- a store, whose bytes lie in one line, touches that line; every store to the memory is one of these
unfoldable pub stored : MainMemory → ℕ → List ℕ → MainMemory
stored memory at bytes = record { bytes = put memory.bytes at bytes; versions = raised memory.versions (at / 128) }
