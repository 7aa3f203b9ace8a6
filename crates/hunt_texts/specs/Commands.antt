-- The commands that show a run, as a user types them into a shell.
use Rattle.std.specs.Prelude.{ℕ, ◌==◌, ◌||◌, ◌&&◌, nat_lt, Bool, List, [], ◌∷◌, ◌++◌, length, codes, if◌then◌else◌}
use Rattle.std.specs.List.{flat_map, list_all, list_any}
use Rattle.std.specs.Char.{is_ascii_alphanumeric}
use Rattle.std.specs.Fmt.{decimal}
use Rattle.cell_base.specs.Records.{line_feed}
use Rattle.hunt_texts.specs.About.{Facts}

-- a byte that has no meaning to a shell
abbrev pub is_plain : ℕ → Bool
is_plain b = is_ascii_alphanumeric b || list_any (λ c. c == b) (codes "@%+=:,./-_")

-- a byte within single quotes
abbrev pub quoted_byte : ℕ → List ℕ
quoted_byte b = if b == 39 then codes "'\"'\"'" else b ∷ []

unfoldable pub quoted : List ℕ → List ℕ
quoted word = 39 ∷ (flat_map quoted_byte word ++ 39 ∷ [])

-- a word of a command: as it is, or in single quotes
abbrev pub shell_word : List ℕ → List ℕ
shell_word word = if nat_lt 0 (length word) && list_all is_plain word then word else quoted word

-- nothing for the default seed
unfoldable pub seed_option : ℕ → List ℕ
seed_option seed = if seed == 1 then [] else codes " --seed " ++ decimal seed

-- a tool in the folder of the tools
unfoldable pub tool_path : List ℕ → List ℕ → List ℕ
tool_path tools tool = tools ++ codes "/" ++ tool

-- the call of a tool for a run
unfoldable pub command : Facts → List ℕ → ℕ → List ℕ
command a tool run = shell_word (tool_path a.tools tool) ++ codes " --run " ++ decimal run ++ seed_option a.seed ++ codes " " ++ shell_word a.machine

-- a line with a command
unfoldable pub command_line : List ℕ → Facts → List ℕ → ℕ → List ℕ
command_line purpose a tool run = purpose ++ command a tool run ++ line_feed
