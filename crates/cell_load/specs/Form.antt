-- The form of a machine file: what the words of a line say.
use Rattle.std.specs.Prelude.{◌≡◌, ℕ, ◌==◌, ◌&&◌, not, nat_lt, nat_le, Bool, List, [], ◌∷◌, length, codes, Option, Some, None, Result, Ok, Err, if◌then◌else◌}
use Rattle.std.specs.Str.{bytes_eq}
use Rattle.std.specs.List.{list_all}
use Rattle.hex.specs.Hex.{decode_of}
use Rattle.cell_base.specs.Bytes.{put, zeros}
use Rattle.cell_base.specs.Numbers.{word_number}
use Rattle.cell_host.specs.declared.HostAction.{HostAction}
use Rattle.cell_host.specs.declared.HostAction.TheVariants.{Send, Take, TakeIntr, Store, Await, Signal}
use Rattle.cell_load.specs.declared.line.Refusal.{Refusal}
use Rattle.cell_load.specs.declared.line.Refusal.TheVariants.{Form, Limit, Memory}
use Rattle.cell_load.specs.Entries.{Entry, Head, Lines, Budget, Spe, Entrance, Code, Bytes, Source, MemoryBytes, Host, OrMode, ShowLocal, ShowMemory}

infixl 10 ◌>>=◌
abbrev pub ◌>>=◌ : {A B : Type 0} → Result A Refusal → (A → Result B Refusal) → Result B Refusal
(Ok x) >>= f = f x
(Err e) >>= f = Err e

-- What a function returned, seen by view, is what the form gives, unless memory ran out.
abbrev pub Gives : {X Y : Type 0} → (X → Y) → Result X Refusal → Result Y Refusal → Type 0
Gives view (Ok x) read = read ≡ Ok (view x)
Gives view (Err Form) read = read ≡ Err Form
Gives view (Err Limit) read = read ≡ Err Limit
Gives view (Err Memory) read = Unit {0}

-- ---- words

abbrev pub in_form : {A B : Type 0} → Option A → B → Result (A × B) Refusal
in_form None rest = Err Form
in_form (Some a) rest = Ok (a, rest)

-- a number, and the words after it
unfoldable pub number_in : List (List ℕ) → Result (ℕ × List (List ℕ)) Refusal
number_in [] = Err Form
number_in (w ∷ ws) = in_form (word_number w) ws

-- a number of one byte, as that of a processor, and the words after it
unfoldable pub byte_in : List (List ℕ) → Result (ℕ × List (List ℕ)) Refusal
byte_in ws = do
  n ← number_in ws
  if nat_lt n.0 256 then Ok n else Err Form

abbrev pub decoded : {E : Type 0} → Result (List ℕ) E → Result (List ℕ) Refusal
decoded (Ok bytes) = Ok bytes
decoded (Err e) = Err Form

-- the bytes that a word of hexadecimal digits stands for: 1 to 4,096
abbrev pub hex_of : List ℕ → Result (List ℕ) Refusal
hex_of w = if nat_lt (length w) 2 then Err Form else if nat_lt 8192 (length w) then Err Form else decoded (decode_of w)

unfoldable pub hex_in : List (List ℕ) → Result (List ℕ × List (List ℕ)) Refusal
hex_in [] = Err Form
hex_in (w ∷ ws) = do
  bytes ← hex_of w
  Ok (bytes, ws)

-- from `!` to `~`, and not `#`
abbrev pub is_visible : ℕ → Bool
is_visible b = nat_le 33 b && nat_le b 126 && not (b == 35)

-- a name: 1 to 255 of these characters
abbrev pub is_name : List ℕ → Bool
is_name w = nat_lt 0 (length w) && nat_le (length w) 255 && list_all is_visible w

abbrev pub name_of : List ℕ → Option (List ℕ)
name_of w = if is_name w then Some w else None

unfoldable pub name_in : List (List ℕ) → Result (List ℕ × List (List ℕ)) Refusal
name_in [] = Err Form
name_in (w ∷ ws) = in_form (name_of w) ws

-- no word follows
unfoldable pub ended : List (List ℕ) → Result (Unit {0}) Refusal
ended [] = Ok tt
ended (w ∷ ws) = Err Form

-- ---- lines, each by the words behind its first

-- the word `1` itself, and no other spelling of the number
unfoldable pub head_line : List (List ℕ) → Result Entry Refusal
head_line [] = Err Form
head_line (w ∷ ws) = do
  end ← ended ws
  if bytes_eq w (codes "1") then Ok Head else Err Form

unfoldable pub lines_line : List (List ℕ) → Result Entry Refusal
lines_line ws = do
  n ← number_in ws
  end ← ended n.1
  Ok (Lines n.0)

unfoldable pub budget_line : List (List ℕ) → Result Entry Refusal
budget_line ws = do
  n ← number_in ws
  end ← ended n.1
  Ok (Budget n.0)

unfoldable pub spe_line : List (List ℕ) → Result Entry Refusal
spe_line ws = do
  end ← ended ws
  Ok Spe

unfoldable pub entry_line : List (List ℕ) → Result Entry Refusal
entry_line ws = do
  at ← number_in ws
  end ← ended at.1
  Ok (Entrance at.0)

unfoldable pub code_line : List (List ℕ) → Result Entry Refusal
code_line ws = do
  at ← number_in ws
  bytes ← hex_in at.1
  end ← ended bytes.1
  Ok (Code at.0 bytes.0)

unfoldable pub bytes_line : List (List ℕ) → Result Entry Refusal
bytes_line ws = do
  at ← number_in ws
  bytes ← hex_in at.1
  end ← ended bytes.1
  Ok (Bytes at.0 bytes.0)

unfoldable pub source_line : List (List ℕ) → Result Entry Refusal
source_line ws = do
  name ← name_in ws
  end ← ended name.1
  Ok (Source name.0)

unfoldable pub memory_line : List (List ℕ) → Result Entry Refusal
memory_line ws = do
  at ← number_in ws
  bytes ← hex_in at.1
  end ← ended bytes.1
  Ok (MemoryBytes at.0 bytes.0)

unfoldable pub show_local_line : List (List ℕ) → Result Entry Refusal
show_local_line ws = do
  spe ← number_in ws
  at ← number_in spe.1
  len ← number_in at.1
  end ← ended len.1
  Ok (ShowLocal spe.0 at.0 len.0)

unfoldable pub show_memory_line : List (List ℕ) → Result Entry Refusal
show_memory_line ws = do
  at ← number_in ws
  len ← number_in at.1
  end ← ended len.1
  Ok (ShowMemory at.0 len.0)

unfoldable pub show_line : List (List ℕ) → Result Entry Refusal
show_line [] = Err Form
show_line (w ∷ ws) =
    if bytes_eq w (codes "ls") then show_local_line ws
    else if bytes_eq w (codes "mem") then show_memory_line ws
    else Err Form

-- ---- host actions, each by the words behind its name

-- the number of a processor, and nothing more
unfoldable pub only_processor : List (List ℕ) → Result ℕ Refusal
only_processor ws = do
  spe ← byte_in ws
  end ← ended spe.1
  Ok spe.0

unfoldable pub send_says : List (List ℕ) → Result HostAction Refusal
send_says ws = do
  spe ← byte_in ws
  value ← number_in spe.1
  end ← ended value.1
  Ok (Send spe.0 value.0)

unfoldable pub take_says : List (List ℕ) → Result HostAction Refusal
take_says ws = do
  spe ← only_processor ws
  Ok (Take spe)

unfoldable pub take_intr_says : List (List ℕ) → Result HostAction Refusal
take_intr_says ws = do
  spe ← only_processor ws
  Ok (TakeIntr spe)

unfoldable pub await_says : List (List ℕ) → Result HostAction Refusal
await_says ws = do
  spe ← only_processor ws
  Ok (Await spe)

unfoldable pub signal_says : List (List ℕ) → Result HostAction Refusal
signal_says ws = do
  spe ← byte_in ws
  register ← byte_in spe.1
  value ← number_in register.1
  end ← ended value.1
  Ok (Signal spe.0 register.0 value.0)

-- an action holds 16 bytes: those that it stores, and zeros
abbrev pub store_of : ℕ → List ℕ → Result HostAction Refusal
store_of at bytes = if nat_le (length bytes) 16 then Ok (Store at (length bytes) (put (zeros 16) 0 bytes)) else Err Form

unfoldable pub store_says : List (List ℕ) → Result HostAction Refusal
store_says ws = do
  at ← number_in ws
  bytes ← hex_in at.1
  end ← ended bytes.1
  store_of at.0 bytes.0

unfoldable pub action_says : List (List ℕ) → Result HostAction Refusal
action_says [] = Err Form
action_says (w ∷ ws) =
    if bytes_eq w (codes "send") then send_says ws
    else if bytes_eq w (codes "take") then take_says ws
    else if bytes_eq w (codes "takeintr") then take_intr_says ws
    else if bytes_eq w (codes "await") then await_says ws
    else if bytes_eq w (codes "store") then store_says ws
    else if bytes_eq w (codes "signal") then signal_says ws
    else Err Form

unfoldable pub host_line : List (List ℕ) → Result Entry Refusal
host_line ws = do
  action ← action_says ws
  Ok (Host action)

-- ---- modes

unfoldable pub mode_line : List (List ℕ) → Result Entry Refusal
mode_line ws = do
  spe ← byte_in ws
  register ← byte_in spe.1
  end ← ended register.1
  Ok (OrMode spe.0 register.0)

-- ---- all lines

-- what a line behind the first three says that isn't of the latest processor
unfoldable pub shared_line : List ℕ → List (List ℕ) → Result Entry Refusal
shared_line word ws =
    if bytes_eq word (codes "mem") then memory_line ws
    else if bytes_eq word (codes "host") then host_line ws
    else if bytes_eq word (codes "ormode") then mode_line ws
    else if bytes_eq word (codes "show") then show_line ws
    else Err Form

-- what a line behind the first three says
unfoldable pub body_line : List ℕ → List (List ℕ) → Result Entry Refusal
body_line word ws =
    if bytes_eq word (codes "spe") then spe_line ws
    else if bytes_eq word (codes "entry") then entry_line ws
    else if bytes_eq word (codes "code") then code_line ws
    else if bytes_eq word (codes "bytes") then bytes_line ws
    else if bytes_eq word (codes "source") then source_line ws
    else shared_line word ws

-- what a line says whose first word is `word`
unfoldable pub line_says : List ℕ → List (List ℕ) → Result Entry Refusal
line_says word ws =
    if bytes_eq word (codes "cell-machine") then head_line ws
    else if bytes_eq word (codes "lines") then lines_line ws
    else if bytes_eq word (codes "budget") then budget_line ws
    else body_line word ws
