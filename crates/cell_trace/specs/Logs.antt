-- The log of a run, a line a step: the step as its line in the record, and then each change that it made.
use Rattle.std.specs.Prelude.{◌≡◌, ℕ, ◌+◌, ◌*◌, ◌<◌, ◌≤◌, ◌==◌, Bool, not, bytes_eq, filter, if◌then◌else◌, List, [], ◌∷◌, ◌++◌, codes, length, slice_get}
use Rattle.std.specs.List.{flat_map, range_with_len}
use Rattle.std.specs.Option.{option_map_or}
use Rattle.cell_base.specs.declared.steps.Step.{Step}
use Rattle.cell_base.specs.declared.steps.Step.TheVariants.{Exec, Elem}
use Rattle.cell_base.specs.Hex.{hex, byte_hex}
use Rattle.cell_base.specs.Records.{line_feed}
use Rattle.spu_regs.specs.Registers.{register}
use Rattle.cell_machine.specs.declared.effect.Place.{Place}
use Rattle.cell_machine.specs.declared.effect.Place.TheVariants.{Memory, Local}
use Rattle.cell_machine.specs.declared.effect.Span.{Span}
use Rattle.cell_machine.specs.declared.effect.Note.{Note}
use Rattle.cell_machine.specs.declared.effect.Note.TheVariants.{Ended}
use Rattle.cell_machine.specs.declared.effect.Effect.{Effect}
use Rattle.cell_machine.specs.EffectLaws.{bytes_in}
use Rattle.cell_machine.specs.Spe.{Spe}
use Rattle.cell_machine.specs.State.{State}
use Rattle.cell_machine.specs.Run.{Ran}
use Rattle.state_lines.specs.Lines.{status_text}
use Rattle.cell_trace.specs.declared.looking.Before.{Before}
use Rattle.cell_trace.specs.declared.looking.After.{After}
use Rattle.cell_trace.specs.Fields.{word, named}
use Rattle.cell_trace.specs.Effects.{asked_in, before_in, after_in, told_fields, step_words, lines_by}

-- an address with so many hexadecimal digits, and bytes with two each, after a blank
abbrev pub address : ℕ → ℕ → List ℕ
address digits at = codes " 0x" ++ hex digits at

abbrev pub bytes_word : List ℕ → List ℕ
bytes_word bytes = word (flat_map byte_hex bytes)

-- ---- registers and program counter

-- the registers of the processor whose instruction the step is
abbrev pub registers_in : State → Step → List (List ℕ)
registers_in M (Exec p) = option_map_or (λ P. P.registers) (slice_get M.spes p) []
registers_in M s = []

-- whether register r has other bytes after the step than before it
abbrev pub is_changed : List (List ℕ) → List (List ℕ) → ℕ → Bool
is_changed before after r = not (bytes_eq (register before r) (register after r))

-- the numbers of the registers that have
abbrev pub changed_registers : List (List ℕ) → List (List ℕ) → List ℕ
changed_registers before after = filter (is_changed before after) (range_with_len 0 128)

-- register r of processor p with its new value
abbrev pub register_field : ℕ → ℕ → List ℕ → List ℕ
register_field p r value = named (codes "reg") (p ∷ r ∷ []) ++ bytes_word value

unfoldable pub register_fields : ℕ → List (List ℕ) → List (List ℕ) → List ℕ
register_fields p before after = flat_map (λ r. register_field p r (register after r)) (changed_registers before after)

abbrev pub pc_field : ℕ → ℕ → List ℕ
pc_field p pc = named (codes "pc") (p ∷ []) ++ address 5 pc

-- of an instruction of processor p, which had these registers before it: the program counter after it, and the registers that it changed
abbrev pub exec_fields : ℕ → List (List ℕ) → Spe → List ℕ
exec_fields p before Q = pc_field p Q.pc ++ register_fields p before Q.registers

unfoldable pub own_changes : List (List ℕ) → State → Step → List ℕ
own_changes before N (Exec p) = option_map_or (exec_fields p before) (slice_get N.spes p) []
own_changes before N s = []

-- ---- bytes

-- where bytes are
abbrev pub place_field : Place → ℕ → List ℕ
place_field Memory at = named (codes "mem") [] ++ address 8 at
place_field (Local p) at = named (codes "ls") (p ∷ []) ++ address 5 at

-- the bytes that the step wrote, if it wrote some
abbrev pub bytes_field : Span → List ℕ → List ℕ
bytes_field x bytes = if x.len == 0 then [] else place_field x.place x.at ++ bytes_word bytes

-- how many bytes a place has, of a machine with so many lines of main memory
abbrev pub room_of : ℕ → Place → ℕ
room_of lines Memory = 128 * lines
room_of lines (Local p) = 262144

-- ---- processors that cease to run

-- the state of processor p
abbrev pub state_field : ℕ → Spe → List ℕ
state_field p Q = named (codes "spe") (p ∷ []) ++ word (status_text Q.status)

abbrev pub ended_field : State → Step → List ℕ
ended_field N (Exec p) = option_map_or (state_field p) (slice_get N.spes p) []
ended_field N (Elem p c) = option_map_or (state_field p) (slice_get N.spes p) []
ended_field N s = []

-- of a step whose note says that its processor ceased to run
unfoldable pub end_field : State → Step → Note → List ℕ
end_field N s Ended = ended_field N s
end_field N s note = []

-- ---- the lines

-- what a step of this effect changed that leads to N: of its processor, of the bytes of memory and local stores, and how its processor ended
unfoldable pub changes : List (List ℕ) → State → Step → Effect → List ℕ
changes registers N s e = own_changes registers N s ++ bytes_field e.writes (bytes_in N e.writes) ++ end_field N s e.note

-- the line of a step of this effect that leads to N, after these registers of its processor
abbrev pub log_line : List (List ℕ) → State → Step → Effect → Before → After → List ℕ
log_line registers N s e before after = step_words s ++ changes registers N s e ++ told_fields e before after ++ line_feed

-- the same of a step from M to N
abbrev pub log_between : State → State → Step → Effect → List ℕ
log_between M N s e = log_line (registers_in M s) N s e (before_in M s e) (after_in N s (asked_in M s))

-- the lines of further steps of a run, a line each, up to the first that isn't allowed
abbrev pub logs_in : Ran → List Step → List ℕ
logs_in m steps = lines_by log_between m steps

-- ---- parts of the code

-- an instruction of a processor that is there: these are all its registers
abbrev pub HasRegisters : Ran → Step → List (List ℕ) → Type 0
HasRegisters m (Exec p) registers = p < length m.setup.entries → length registers ≡ 128
HasRegisters m s registers = Unit {0}

-- the span lies in its place
abbrev pub LiesWithin : Ran → Span → Type 0
LiesWithin m x = x.at + x.len ≤ room_of m.setup.lines x.place
