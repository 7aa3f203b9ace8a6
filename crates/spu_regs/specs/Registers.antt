-- The registers of a processor: a list of 128 quadwords, each a list of 16 bytes.
use Rattle.std.specs.Prelude.{ℕ, List, [], replicate, slice_index_or}
use Rattle.cell_base.specs.Bytes.{zeros}

-- register r
abbrev pub register : List (List ℕ) → ℕ → List ℕ
register regs r = slice_index_or regs r []

-- all registers at the start
unfoldable pub zero_registers : List (List ℕ)
zero_registers = replicate 128 (zeros 16)
