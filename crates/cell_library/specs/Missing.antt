-- What failed last.
use Rattle.std.specs.Prelude.{◌≡◌, ℕ, List, Option, None, option_and_then}
use Rattle.cell_io.specs.Files.{File, file_named}

-- no file has the name of the latest fetch that failed, if one did
abbrev pub IsMissing : List File → Option (List ℕ) → Type 0
IsMissing files failed = option_and_then (file_named files) failed ≡ None
