-- Where the lines of a machine file may stand, and the limits of their numbers and counts.
use Rattle.std.specs.Prelude.{ℕ, ◌+◌, ◌*◌, ◌%◌, ◌==◌, ◌&&◌, ◌||◌, not, nat_lt, nat_le, Bool, true, false, List, [], ◌∷◌, length, Option, Some, None, is_none, Result, Ok, Err, if◌then◌else◌, IsTrue}
use Rattle.cell_base.specs.Words.{lines_of, words_of}
use Rattle.cell_base.specs.Walk.{walk}
use Rattle.cell_host.specs.declared.HostAction.{HostAction}
use Rattle.cell_host.specs.declared.HostAction.TheVariants.{Send, Take, TakeIntr, Store, Await, Signal}
use Rattle.cell_load.specs.declared.line.Refusal.{Refusal}
use Rattle.cell_load.specs.declared.line.Refusal.TheVariants.{Form, Limit}
use Rattle.cell_load.specs.declared.line.Counts.{Counts}
use Rattle.cell_load.specs.declared.line.Stage.{Stage}
use Rattle.cell_load.specs.declared.line.Stage.TheVariants.{Start, Headed, Sized, Body}
use Rattle.cell_load.specs.Entries.{Entry, Head, Lines, Budget, Spe, Entrance, Code, Bytes, Source, MemoryBytes, Host, OrMode, ShowLocal, ShowMemory}
use Rattle.cell_load.specs.Form.{◌>>=◌, line_says}

abbrev pub only_if : {A : Type 0} → Bool → Result A Refusal → Result A Refusal
only_if holds next = if holds then next else Err Form

abbrev pub limited : {A : Type 0} → Bool → A → Result A Refusal
limited within next = if within then Ok next else Err Limit

-- the bytes from a place on lie in a local store
abbrev pub in_local : ℕ → ℕ → Bool
in_local at len = nat_le (at + len) 262144

-- the bytes from a place on lie in so many lines of main memory
abbrev pub in_memory : ℕ → ℕ → ℕ → Bool
in_memory lines at len = nat_le (at + len) (128 * lines)

-- 1 to 16 bytes, within one line of main memory
abbrev pub in_line : ℕ → ℕ → ℕ → Bool
in_line lines at len = nat_le 1 len && nat_le len 16 && nat_le (at % 128 + len) 128 && in_memory lines at len

-- a range that is shown has 1 to 4,096 bytes
abbrev pub is_shown : ℕ → Bool
is_shown len = nat_le 1 len && nat_le len 4096

-- a processor came before
abbrev pub has_spe : Counts → Bool
has_spe c = nat_lt 0 c.spes

-- a signal register has the number 1 or 2
abbrev pub is_register : ℕ → Bool
is_register register = register == 1 || register == 2

-- the processor of a host action came before, or the bytes that it stores, of the 16 that it holds, lie within one line
abbrev pub fits_action : Counts → HostAction → Bool
fits_action c (Send spe value) = nat_lt spe c.spes
fits_action c (Take spe) = nat_lt spe c.spes
fits_action c (TakeIntr spe) = nat_lt spe c.spes
fits_action c (Await spe) = nat_lt spe c.spes
fits_action c (Signal spe register value) = nat_lt spe c.spes && is_register register
fits_action c (Store ea len bytes) = in_line c.lines ea len && length bytes == 16

-- no line behind the first three, of which the second gave so many lines of memory
abbrev pub nothing : ℕ → Counts
nothing lines = record { lines = lines; spes = 0; entry = false; sources = 0; actions = 0; shows = 0 }

-- the counts after a line that stands behind the first three
unfoldable pub counted : Counts → Entry → Result Counts Refusal
counted c Spe = limited (nat_lt c.spes 16) (record c { spes = c.spes + 1; entry = false })
counted c (Entrance at) = only_if (has_spe c && not c.entry && at % 4 == 0 && nat_lt at 262144) (Ok (record c { entry = true }))
counted c (Code at bytes) = only_if (has_spe c && at % 4 == 0 && length bytes % 4 == 0 && in_local at (length bytes)) (Ok c)
counted c (Bytes at bytes) = only_if (has_spe c && in_local at (length bytes)) (Ok c)
counted c (Source name) = only_if (has_spe c) (limited (nat_lt c.sources 32) (record c { sources = c.sources + 1 }))
counted c (MemoryBytes at bytes) = only_if (in_memory c.lines at (length bytes)) (Ok c)
counted c (Host action) = only_if (fits_action c action) (limited (nat_lt c.actions 4096) (record c { actions = c.actions + 1 }))
counted c (OrMode spe register) = only_if (nat_lt spe c.spes && is_register register) (Ok c)
counted c (ShowLocal spe at len) = only_if (nat_lt spe c.spes && in_local at len) (limited (is_shown len && nat_lt c.shows 64) (record c { shows = c.shows + 1 }))
counted c (ShowMemory at len) = only_if (in_memory c.lines at len) (limited (is_shown len && nat_lt c.shows 64) (record c { shows = c.shows + 1 }))
counted c first_three = Err Form

abbrev pub in_body : Result Counts Refusal → Result Stage Refusal
in_body (Ok c) = Ok (Body c)
in_body (Err e) = Err e

-- the stage after a line, or why it has no place
unfoldable pub admit : Stage → Entry → Result Stage Refusal
admit Start Head = Ok Headed
admit Headed (Lines n) = limited (nat_le 1 n && nat_le n 524288) (Sized n)
admit (Sized lines) (Budget n) = limited (nat_le 1 n && nat_le n 1000000) (Body (nothing lines))
admit (Body c) entry = in_body (counted c entry)
admit stage other = Err Form

-- what the file still lacks at its end: it has at least one processor
abbrev pub lacks : Stage → Option Refusal
lacks (Body c) = if c.spes == 0 then Some Form else None
lacks stage = Some Form

-- a line and the stage after it
abbrev pub with_place : Stage → Entry → Result (Option (Entry × Stage)) Refusal
with_place stage entry = do
  next ← admit stage entry
  Ok (Some (entry, next))

abbrev pub words_step : Stage → List (List ℕ) → Result (Option (Entry × Stage)) Refusal
words_step stage [] = Ok None
words_step stage (w ∷ ws) = do
  entry ← line_says w ws
  with_place stage entry

-- a line without words is skipped
unfoldable pub line_step : Stage → List ℕ → Result (Option (Entry × Stage)) Refusal
line_step stage line = words_step stage (words_of line)

-- what the lines of the text say, or the first line that has no place and why
abbrev pub machine_at : List ℕ → Result (List Entry) (ℕ × Refusal)
machine_at text = walk line_step lacks 1 Start (lines_of text)

-- the stage after these lines, or why the first that has no place has none
unfoldable pub admit_all : Stage → List Entry → Result Stage Refusal
admit_all stage [] = Ok stage
admit_all stage (entry ∷ entries) = do
  next ← admit stage entry
  admit_all next entries

abbrev pub ends_well : Result Stage Refusal → Bool
ends_well (Ok stage) = is_none (lacks stage)
ends_well (Err e) = false

-- these lines are a whole machine file: each has its place, and nothing is missing
abbrev pub IsMachine : List Entry → Type 0
IsMachine entries = IsTrue (ends_well (admit_all Start entries))
