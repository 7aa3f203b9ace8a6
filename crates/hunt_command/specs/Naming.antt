-- Whether a pass line names a place of the machine.
use Rattle.std.specs.Prelude.{ℕ, ◌+◌, ◌%◌, ◌==◌, ◌&&◌, ◌||◌, not, nat_lt, Bool, true, false, List, [], ◌∷◌, length, take, drop, slice_index_or, Option, Some, None, if◌then◌else◌}
use Rattle.std.specs.List.{list_any}
use Rattle.cell_base.specs.Numbers.{word_number}
use Rattle.cell_hunt.specs.declared.site.Site.{Site}
use Rattle.cell_hunt.specs.declared.site.Site.TheVariants.{Exec, Piece, Elem, Retire, Atomic, Host}
use Rattle.cell_machine.specs.Opening.{Opening}
use Rattle.hunt_reports.specs.declared.origins.Source.{Source}
use Rattle.hunt_reports.specs.declared.origins.Places.{Places}
use Rattle.hunt_reports.specs.Origins.{NamedLine, is_placed, source_line}
use Rattle.hunt_command.specs.Heard.{is_word}

-- a word that begins with a name and a colon
abbrev pub begins_with : List ℕ → List ℕ → Bool
begins_with name word = nat_lt (length name) (length word) && is_word (take (length name) word) name && (slice_index_or word (length name) 0 == 58)

-- the number of `NAME:NUMBER`
abbrev pub number_behind : List ℕ → List ℕ → Option ℕ
number_behind name word = if begins_with name word then word_number (drop (length name + 1) word) else None

abbrev pub names_source : List ℕ → Source → Bool
names_source word source = begins_with source.name.items word

abbrev pub is_number : ℕ → Option ℕ → Bool
is_number n None = false
is_number n (Some m) = m == n

-- the word is `NAME:NUMBER` of this line
abbrev pub names_line : Option NamedLine → List ℕ → Bool
names_line None word = false
names_line (Some line) word = is_number line.number (number_behind line.name word)

-- if a line of a source is named, it is the line that placed the instruction
abbrev pub agrees : Places → ℕ → ℕ → List (List ℕ) → Bool
agrees places p a [] = true
agrees places p a (word ∷ words) = not (list_any (names_source word) places.sources.items) || names_line (source_line places p a) word

-- an instruction was placed at address a of processor p, and no other line is named for it
abbrev pub is_instruction : Places → ℕ → ℕ → List (List ℕ) → Bool
is_instruction places p a words = (a % 4 == 0) && is_placed places p a && agrees places p a words

-- the machine has this site, which these words follow
abbrev pub is_named : Opening → Places → Site → List (List ℕ) → Bool
is_named setup places (Exec p a) words = is_instruction places p a words
is_named setup places (Piece p a) words = is_instruction places p a words
is_named setup places (Elem p a) words = is_instruction places p a words
is_named setup places (Retire p a) words = is_instruction places p a words
is_named setup places (Atomic p a) words = is_instruction places p a words
is_named setup places (Host action) words = nat_lt action (length setup.actions)
