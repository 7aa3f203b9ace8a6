-- The row of a mnemonic.
use Rattle.std.specs.Prelude.{ℕ, List, Option}
use Rattle.std.specs.List.{find}
use Rattle.std.specs.Str.{bytes_eq}
use Rattle.spu_decode.specs.declared.row.Row.{Row}
use Rattle.spu_decode.specs.declared.table.TheConstants.{ROWS}
use Rattle.spu_decode.specs.Spelling.{mnemonic_of}

-- the first row, among all, with this mnemonic
unfoldable pub row_named : List ℕ → Option Row
row_named name = find (λ row. bytes_eq (mnemonic_of row) name) ROWS
