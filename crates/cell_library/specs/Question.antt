-- What the bytes of a question stand for: words, and files.
use Rattle.std.specs.Prelude.{◌≡◌, ◌⊎◌, ℕ, ◌+◌, ◌<◌, nat_le, List, [], ◌∷◌, length, take, drop, Option, Some, None, if◌then◌else◌}
use Rattle.std.specs.List.{position}
use Rattle.std.specs.Option.{option_map}
use Rattle.std.specs.Str.{IsUtf8}
use Rattle.cell_base.specs.Numbers.{◌>>=◌, decimal_number}
use Rattle.cell_base.specs.Words.{is_feed, lines_of}
use Rattle.cell_io.specs.Files.{File, HasDifferentNames}

-- ---- words

-- each is a text
abbrev pub AreTexts : List (List ℕ) → Type 0
AreTexts [] = Unit {0}
AreTexts (word ∷ words) = IsUtf8 word × AreTexts words

-- ---- files

-- the line at the front, which a line feed ends, and what is behind it
abbrev pub line_at : List ℕ → Option (List ℕ × List ℕ)
line_at bytes = option_map (λ end. (take end bytes, drop (end + 1) bytes)) (position is_feed bytes)

-- a number on a line of its own, and what is behind it
abbrev pub number_line : List ℕ → Option (ℕ × List ℕ)
number_line bytes = line_at bytes >>= λ line. option_map (λ number. (number, line.1)) (decimal_number line.0)

-- so many bytes as those of a file of this name, and what is behind them
abbrev pub file_of : List ℕ → ℕ × List ℕ → Option (File × List ℕ)
file_of name (count, behind) =
    if nat_le count (length behind) then Some (record { name = name; bytes = take count behind }, drop count behind) else None

-- the file at the front: its name on a line, on another one how many bytes it has, and those bytes; and what is behind it
abbrev pub file_at : List ℕ → Option (File × List ℕ)
file_at bytes = line_at bytes >>= λ line. number_line line.1 >>= file_of line.0

abbrev pub with_file : File → Option (List File) → Option (List File)
with_file file files = option_map (λ more. file ∷ more) files

-- the bytes are these files, one behind the other; None where no file is at the front of what is left, or its name is no text
pub data Bundles : List ℕ → Option (List File) → Type 0 where
  End : Bundles [] (Some [])
  Then : {bytes rest : List ℕ} {file : File} {files : Option (List File)} → file_at bytes ≡ Some (file, rest) → IsUtf8 file.name → Bundles rest files → Bundles bytes (with_file file files)
  NoFile : {bytes : List ℕ} → 0 < length bytes → file_at bytes ≡ None → Bundles bytes None
  NoName : {bytes rest : List ℕ} {file : File} → file_at bytes ≡ Some (file, rest) → ¬ (IsUtf8 file.name) → Bundles bytes None

-- ---- both

-- the bytes of words and of files stand for lines, each a text, and for these files, no two of which have one name
pub record IsQuestion (words files : List ℕ) (given : List File) : Type 0 where
  pub texts : AreTexts (lines_of words)
  pub bundled : Bundles files (Some given)
  pub different : HasDifferentNames given

-- two files have one name
pub record HasTwins (files : List ℕ) : Type 0 where
  pub given : List File
  pub bundled : Bundles files (Some given)
  pub twins : ¬ (HasDifferentNames given)

-- they don't
abbrev pub IsNoQuestion : List ℕ → List ℕ → Type 0
IsNoQuestion words files = ¬ (AreTexts (lines_of words)) ⊎ Bundles files None ⊎ HasTwins files
