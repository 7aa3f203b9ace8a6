-- What a pass file says: the races that are left out.
use Rattle.std.specs.Prelude.{◌≡◌, ℕ, ◌==◌, Bool, false, nat_lt, List, [], ◌∷◌, length, codes, if◌then◌else◌, Option, Some, None, is_none, Result, Ok, Err}
use Rattle.cell_base.specs.Numbers.{◌>>=◌, word_number}
use Rattle.cell_base.specs.Words.{lines_of, words_in}
use Rattle.cell_base.specs.Walk.{walk}
use Rattle.cell_hunt.specs.declared.site.Site.{Site}
use Rattle.cell_hunt.specs.declared.site.Sites.{Sites}
use Rattle.cell_hunt.specs.declared.site.Site.TheVariants.{Exec, Piece, Elem, Retire, Atomic, Host}
use Rattle.hunt_command.specs.declared.passes.PassError.{PassError}
use Rattle.hunt_command.specs.declared.passes.PassError.TheVariants.{BadLine, Memory}
use Rattle.cell_machine.specs.Opening.{Opening}
use Rattle.hunt_reports.specs.declared.origins.Places.{Places}
use Rattle.hunt_command.specs.Heard.{is_word}
use Rattle.hunt_command.specs.Lines.{without_return}
use Rattle.hunt_command.specs.Naming.{is_named}

-- a word, and the words after it
abbrev pub word_at : List (List ℕ) → Option (List ℕ × List (List ℕ))
word_at [] = None
word_at (word ∷ words) = Some (word, words)

-- a number, and the words after it
unfoldable pub number_in : List (List ℕ) → Option (ℕ × List (List ℕ))
number_in words = word_at words >>= λ w. word_number w.0 >>= λ n. Some (n, w.1)

-- a processor, of this many
unfoldable pub spe_in : ℕ → List (List ℕ) → Option (ℕ × List (List ℕ))
spe_in spes words = number_in words >>= λ n. if nat_lt n.0 spes then Some n else None

-- this very word, and the words after it
unfoldable pub mark_in : List ℕ → List (List ℕ) → Option (List (List ℕ))
mark_in mark words = word_at words >>= λ w. if is_word w.0 mark then Some w.1 else None

-- the words after the next bar
unfoldable pub behind_bar : List (List ℕ) → Option (List (List ℕ))
behind_bar [] = None
behind_bar (word ∷ words) = if is_word word (codes "|") then Some words else behind_bar words

-- the site of a step whose line begins with this letter
abbrev pub site_named : List ℕ → ℕ → ℕ → Option Site
site_named letter spe place =
    if is_word letter (codes "x") then Some (Exec spe place)
    else if is_word letter (codes "p") then Some (Piece spe place)
    else if is_word letter (codes "e") then Some (Elem spe place)
    else if is_word letter (codes "r") then Some (Retire spe place)
    else if is_word letter (codes "a") then Some (Atomic spe place)
    else None

-- `x 0 at 0x00080`, after its letter
unfoldable pub spe_site : ℕ → List ℕ → List (List ℕ) → Option (Site × List (List ℕ))
spe_site spes letter words =
    spe_in spes words >>= λ spe. mark_in (codes "at") spe.1 >>= λ rest. number_in rest >>= λ place. site_named letter spe.0 place.0 >>= λ site. Some (site, place.1)

-- `h 3`, after its letter
unfoldable pub host_site : List (List ℕ) → Option (Site × List (List ℕ))
host_site words = number_in words >>= λ action. Some (Host action.0, action.1)

-- a site, and the words after it
unfoldable pub site_in : ℕ → List (List ℕ) → Option (Site × List (List ℕ))
site_in spes words = word_at words >>= λ w. if is_word w.0 (codes "h") then host_site w.1 else spe_site spes w.0 w.1

-- a site of the machine, and the words after it
unfoldable pub named_in : Opening → Places → List (List ℕ) → Option (Site × List (List ℕ))
named_in setup places words = site_in (length setup.entries) words >>= λ site. if is_named setup places site.0 site.1 then Some site else None

-- `race COUNT FIRST |`, or the bar alone; and the words after it
unfoldable pub head_in : List (List ℕ) → Option (List (List ℕ))
head_in words =
    word_at words >>= λ w.
    if is_word w.0 (codes "race") then (number_in w.1 >>= λ count. number_in count.1 >>= λ first. mark_in (codes "|") first.1)
    else mark_in (codes "|") words

-- two sites, each after a bar; the line of a source may follow each
unfoldable pub race_in : Opening → Places → List (List ℕ) → Option Sites
race_in setup places words =
    head_in words >>= λ rest. named_in setup places rest >>= λ first. behind_bar first.1 >>= λ more. named_in setup places more >>= λ second.
    if is_none (behind_bar second.1) then Some (record { first = first.0; second = second.0 }) else None

-- ---- all lines

abbrev pub has_hash : List ℕ → Bool
has_hash [] = false
has_hash (b ∷ bs) = b == 35

abbrev pub placed_race : Option Sites → Result (Option (Sites × Unit {0})) (Unit {0})
placed_race None = Err tt
placed_race (Some race) = Ok (Some (race, tt))

-- a line without words, or with a comment alone, is skipped
abbrev pub words_step : Opening → Places → List (List ℕ) → Result (Option (Sites × Unit {0})) (Unit {0})
words_step setup places [] = Ok None
words_step setup places (word ∷ words) = if has_hash word then Ok None else placed_race (race_in setup places (word ∷ words))

unfoldable pub line_step : Opening → Places → Unit {0} → List ℕ → Result (Option (Sites × Unit {0})) (Unit {0})
line_step setup places s line = words_step setup places (words_in (without_return line))

-- a pass file may end anywhere
abbrev pub lacks : Unit {0} → Option (Unit {0})
lacks s = None

-- the races of the lines of a text, or the first line that names no race of two places of the machine
abbrev pub passes_at : Opening → Places → List ℕ → Result (List Sites) (ℕ × Unit {0})
passes_at setup places text = walk (line_step setup places) lacks 1 tt (lines_of text)

-- What a function returned, seen by view, is what reading gives, unless memory ran out.
abbrev pub PassesGive : {X : Type 0} → (X → List Sites) → Result X PassError → Result (List Sites) (ℕ × Unit {0}) → Type 0
PassesGive view (Ok x) read = read ≡ Ok (view x)
PassesGive view (Err (BadLine line)) read = read ≡ Err (line, tt)
PassesGive view (Err Memory) read = Unit {0}
