-- What a text stands for.
use Rattle.std.specs.Prelude.{◌≡◌, ℕ, ◌+◌, ◌%◌, ◌<◌, ◌≤◌, List, length}

-- the bytes of the text from address 0 on, the data with their address, and the entry
pub record Image : Type 0 where
  pub text : List ℕ
  pub bytes : List ℕ
  pub bytes_at : ℕ
  pub entry : ℕ

-- the text is whole words, the data begin at a multiple of 128 behind it, all of it fits the store,
-- and the entry is a word's address
pub record IsImage (i : Image) : Type 0 where
  pub words : length i.text % 4 ≡ 0
  pub before : length i.text ≤ i.bytes_at
  pub line : i.bytes_at % 128 ≡ 0
  pub fits : i.bytes_at + length i.bytes ≤ 262144
  pub aligned : i.entry % 4 ≡ 0
  pub within : i.entry < 262144
