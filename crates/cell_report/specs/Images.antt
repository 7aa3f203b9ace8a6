-- The text of an assembled image.
use Rattle.std.specs.Prelude.{ℕ, ◌+◌, ◌*◌, ◌/◌, min, List, ◌++◌, length, slice_range, codes}
use Rattle.std.specs.List.{flat_map, range_with_len}
use Rattle.cell_base.specs.Hex.{hex, byte_hex}
use Rattle.cell_base.specs.Records.{line_feed}
use Rattle.spu_asm.specs.Images.{Image}

-- the bytes of row k: sixteen of them, or what is left
abbrev pub row_of : List ℕ → ℕ → List ℕ
row_of bytes k = slice_range bytes (16 * k) (min (16 * k + 16) (length bytes))

-- the line of a row at an address
abbrev pub row_line : List ℕ → ℕ → List ℕ → List ℕ
row_line word at row = word ++ codes " 0x" ++ hex 5 at ++ codes " " ++ flat_map byte_hex row ++ line_feed

-- all bytes from an address on, row by row
abbrev pub row_lines : List ℕ → ℕ → List ℕ → List ℕ
row_lines word at bytes = flat_map (λ k. row_line word (at + 16 * k) (row_of bytes k)) (range_with_len 0 ((length bytes + 15) / 16))

-- the text, the data and the entry
abbrev pub image_lines : Image → List ℕ
image_lines image =
    row_lines (codes "code") 0 image.text ++ row_lines (codes "bytes") image.bytes_at image.bytes
    ++ codes "entry 0x" ++ hex 5 image.entry ++ line_feed
