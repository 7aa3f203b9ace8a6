-- The lines of a text that somebody wrote.
use Rattle.std.specs.Prelude.{ℕ, ◌-◌, ◌==◌, List, length, take, slice_index_or, if◌then◌else◌}

-- a line without the carriage return at its end
abbrev pub without_return : List ℕ → List ℕ
without_return line = if slice_index_or line (length line - 1) 0 == 13 then take (length line - 1) line else line
