-- What is told of a machine file: its lines that have words, each with its number, counted from 1, and its processor.
use Rattle.std.specs.Prelude.{◌≡◌, ℕ, suc, ◌+◌, ◌-◌, ◌||◌, Bool, List, [], ◌∷◌, ◌++◌, Vec, Result, Ok, Err, IsOk, IsErrAnd, if◌then◌else◌, codes}
use Rattle.std.specs.Str.{bytes_eq}
use Rattle.std.specs.List.{flat_map}
use Rattle.std.specs.Fmt.{decimal}
use Rattle.std.specs.declared.alloc.Global.{Global}
use Rattle.cell_base.specs.Records.{field, line_feed}
use Rattle.cell_base.specs.Words.{lines_of, words_of}
use Rattle.cell_io.specs.Files.{File}
use Rattle.cell_load.specs.Order.{machine_at}
use Rattle.cell_commands.specs.declared.fault.Fault.TheVariants.{Machine as BadMachine}
use Rattle.cell_commands.specs.Course.{whole, given}
use Rattle.cell_commands.specs.Forms.{text_limit}
use Rattle.trace_commands.specs.declared.fault.Fault.{Fault}
use Rattle.trace_commands.specs.declared.fault.Fault.TheVariants.{Input, Memory}
use Rattle.trace_commands.specs.Words.{Word}

-- a line that begins so is of the latest processor
abbrev pub is_of_latest : Word → Bool
is_of_latest word = bytes_eq word (codes "spe") || bytes_eq word (codes "entry") || bytes_eq word (codes "code") || bytes_eq word (codes "bytes") || bytes_eq word (codes "source")

-- how many processors came by the end of a line with these words, where so many came before
abbrev pub spes_behind : ℕ → List Word → ℕ
spes_behind spes [] = spes
spes_behind spes (word ∷ words) = if bytes_eq word (codes "spe") then spes + 1 else spes

-- the processor that a line is of, counted from 0, where so many came by its end; a dash where it is of none
abbrev pub processor_text : ℕ → Word → List ℕ
processor_text spes word = if is_of_latest word then field (spes - 1) else codes " -"

abbrev pub spaced : Word → List ℕ
spaced word = codes " " ++ word

-- the number of a line, its processor, and its words
abbrev pub planned_line : ℕ → ℕ → List Word → List ℕ
planned_line number spes [] = []
planned_line number spes (word ∷ words) = decimal number ++ processor_text spes word ++ flat_map spaced (word ∷ words) ++ line_feed

-- the lines from this number on, before which so many processors came
unfoldable pub plan_from : ℕ → ℕ → List (List ℕ) → List ℕ
plan_from number spes [] = []
plan_from number spes (line ∷ lines) =
    let behind = spes_behind spes (words_of line) in
    planned_line number behind (words_of line) ++ plan_from (suc number) behind lines

abbrev pub plan_text : List ℕ → List ℕ
plan_text text = plan_from 1 0 (lines_of text)

-- the file was read whole, it is a machine file, and this is its plan
abbrev pub HasPlan : List File → Word → List ℕ → Type 0
HasPlan files machine plan = (text : List ℕ) × (given files machine text_limit ≡ whole text) × IsOk (machine_at text) × (plan ≡ plan_text text)

-- of the text of a machine file its plan, or the first line that has no place
abbrev pub PlansText : List ℕ → Result (Vec ℕ Global) Fault → Type 0
PlansText text (Ok out) = IsOk (machine_at text) × (out.items ≡ plan_text text)
PlansText text (Err (Input (BadMachine line))) = IsErrAnd (machine_at text) (λ fault. fault.0 ≡ line)
PlansText text (Err Memory) = Unit {0}
PlansText text (Err other) = ⊥
