-- The kind of a run: which addresses its processors executed, and who touched each line, mailbox and signal register, each in the order of the run.
use Rattle.std.specs.Prelude.{ℕ, ◌+◌, ◌*◌, ◌/◌, ◌==◌, ◌&&◌, nat_lt, Bool, true, false, List, [], ◌∷◌, ◌++◌, map, filter, fold, flat_map, Option, Some, None, option_to_list, if◌then◌else◌}
use Rattle.std.specs.List.{range_with_len}
use Rattle.std.specs.Option.{option_map_or}
use Rattle.cell_base.specs.declared.steps.Step.{Step}
use Rattle.cell_base.specs.declared.steps.Step.TheVariants.{Exec, Piece, Elem, Retire, Atomic, Host}
use Rattle.cell_machine.specs.declared.effect.Place.{Place}
use Rattle.cell_machine.specs.declared.effect.Place.TheVariants.{Memory, Local}
use Rattle.cell_machine.specs.declared.effect.Span.{Span}
use Rattle.cell_machine.specs.declared.effect.Note.{Note}
use Rattle.cell_machine.specs.declared.effect.Note.TheVariants.{Put, Take, Signal}
use Rattle.cell_machine.specs.declared.effect.Effect.{Effect}
use Rattle.cell_machine.specs.Traces.{Event, trace_of}
use Rattle.cell_machine.specs.Run.{Ran}
use Rattle.cell_hunt.specs.declared.touches.Touch.{Touch}
use Rattle.cell_hunt.specs.Mixing.{with_number}

-- ---- what is touched has a number

-- of each processor, of which there are sixteen at most, its program, its mailboxes 0 to 2, and its signal registers 1 and 2
abbrev pub program : ℕ → ℕ
program p = 6 * p

abbrev pub mailbox : ℕ → ℕ → ℕ
mailbox p number = 6 * p + 1 + number

abbrev pub register : ℕ → ℕ → ℕ
register p number = 6 * p + 3 + number

-- and the line of main memory that an address lies in
abbrev pub line_at : ℕ → ℕ
line_at address = 96 + address / 128

-- how many there are in a machine of so many lines
abbrev pub touchable : ℕ → ℕ
touchable lines = 96 + lines

-- ---- who touches it

-- the actor of a step: processors have the even numbers, their flow controllers the odd ones, and the host 32
abbrev pub actor_number : Step → ℕ
actor_number (Exec p) = 2 * p
actor_number (Piece p c x k) = 2 * p + 1
actor_number (Elem p c) = 2 * p + 1
actor_number (Retire p c) = 2 * p + 1
actor_number (Atomic p) = 2 * p + 1
actor_number Host = 32

-- an instruction touches its program, where its address counts
abbrev pub program_touch : Step → Effect → Option Touch
program_touch (Exec p) e = Some (record { what = program p; who = e.fetch.at })
program_touch s e = None

-- bytes of main memory, if there are some, lie in one line
abbrev pub is_memory : Place → Bool
is_memory Memory = true
is_memory (Local p) = false

abbrev pub line_touch : ℕ → Span → Option Touch
line_touch who x = if is_memory x.place && nat_lt 0 x.len then Some (record { what = line_at x.at; who = who }) else None

-- a value goes through a mailbox, or a signal register
abbrev pub value_touch : ℕ → Note → Option Touch
value_touch who (Put p number) = Some (record { what = mailbox p number; who = who })
value_touch who (Take p number) = Some (record { what = mailbox p number; who = who })
value_touch who (Signal p number) = Some (record { what = register p number; who = who })
value_touch who note = None

-- what a step with this effect touches
abbrev pub touches : Step → Effect → List Touch
touches s e =
    option_to_list (program_touch s e) ++ option_to_list (line_touch (actor_number s) e.reads) ++ option_to_list (line_touch (actor_number s) e.writes)
    ++ option_to_list (value_touch (actor_number s) e.note)

-- what the steps of a run touch; every run has a trace
unfoldable pub touches_in : Ran → List Touch
touches_in m = option_map_or (flat_map (λ (x : Event). touches x.step x.effect)) (trace_of m) []

-- ---- the digest of all that, which has 64 bits

abbrev pub digest : List ℕ → ℕ
digest numbers = fold with_number 0 numbers

-- who touched what has this number
abbrev pub touchers : ℕ → List Touch → List ℕ
touchers what all = map (λ (t : Touch). t.who) (filter (λ (t : Touch). t.what == what) all)

-- its number, and the digest of who touched it, where that isn't 0, which it is of what nobody touched
abbrev pub touched : ℕ → ℕ → List ℕ
touched what who = if who == 0 then [] else what ∷ who ∷ []

-- the kind of a run: the digest of all that was touched
abbrev pub kind_of : Ran → ℕ
kind_of m = digest (flat_map (λ what. touched what (digest (touchers what (touches_in m)))) (range_with_len 0 (touchable m.setup.lines)))
