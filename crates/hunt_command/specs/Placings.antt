-- What the lines of a machine file place, and in whose store.
use Rattle.std.specs.Prelude.{ℕ, ◌+◌, ◌-◌, ◌/◌, ◌||◌, List, [], ◌∷◌, ◌++◌, length, codes, Option, Some, None, unwrap_or, if◌then◌else◌}
use Rattle.std.specs.Option.{option_to_list}
use Rattle.cell_base.specs.Numbers.{◌>>=◌, word_number}
use Rattle.cell_base.specs.Words.{lines_of, words_of}
use Rattle.hunt_reports.specs.declared.origins.Placed.TheVariants.{Source as Image, Bytes}
use Rattle.hunt_reports.specs.declared.origins.Placing.{Placing}
use Rattle.hunt_command.specs.declared.placings.Said.{Said}
use Rattle.hunt_command.specs.declared.placings.Said.TheVariants as said
use Rattle.hunt_command.specs.Heard.{is_word}
use Rattle.hunt_command.specs.Passes.{word_at}

-- a `code` or `bytes` line, by the words after its first one: an address, and two digits for each byte
unfoldable pub bytes_said : List (List ℕ) → Option Said
bytes_said words = word_at words >>= λ first. word_number first.0 >>= λ at. word_at first.1 >>= λ digits. Some (said.Bytes at (length digits.0 / 2))

-- what a line says, by its words
abbrev pub said_by : List (List ℕ) → Said
said_by [] = said.Nothing
said_by (word ∷ words) =
    if is_word word (codes "spe") then said.Spe
    else if is_word word (codes "source") then said.Source
    else if is_word word (codes "code") || is_word word (codes "bytes") then unwrap_or (bytes_said words) said.Nothing
    else said.Nothing

-- how many processors came by the end of a line
abbrev pub spes_after : ℕ → Said → ℕ
spes_after spes said.Spe = spes + 1
spes_after spes other = spes

-- how many sources came by the end of a line
abbrev pub sources_after : ℕ → Said → ℕ
sources_after sources said.Source = sources + 1
sources_after sources other = sources

-- what a line places in the store of the latest processor
abbrev pub placing_of : ℕ → ℕ → Said → Option Placing
placing_of spes sources said.Source = Some (record { spe = spes - 1; placed = Image sources })
placing_of spes sources (said.Bytes at len) = Some (record { spe = spes - 1; placed = Bytes at len })
placing_of spes sources other = None

-- what these lines place, before which so many processors and sources came
unfoldable pub placings_from : ℕ → ℕ → List (List ℕ) → List Placing
placings_from spes sources [] = []
placings_from spes sources (line ∷ lines) =
    let says = said_by (words_of line) in
    option_to_list (placing_of spes sources says) ++ placings_from (spes_after spes says) (sources_after sources says) lines

-- what all lines of a machine file place, in their order
abbrev pub placings_in : List ℕ → List Placing
placings_in text = placings_from 0 0 (lines_of text)
