-- What the steps of a run do, a line a step: the step as its line in the record, and then its fields.
use Rattle.std.specs.Prelude.{◌≡◌, ℕ, ◌+◌, ◌-◌, ◌%◌, ◌==◌, ◌&&◌, nat_lt, if◌then◌else◌, List, [], ◌∷◌, ◌++◌, take, length, codes, Option, Some, None, is_none, slice_get, slice_index_or}
use Rattle.std.specs.Option.{option_and_then, option_map, option_map_or}
use Rattle.cell_base.specs.declared.steps.Step.{Step}
use Rattle.cell_base.specs.declared.steps.Step.TheVariants.{Exec, Piece, Elem, Atomic, Host}
use Rattle.cell_base.specs.declared.steps.ChannelOp.{ChannelOp}
use Rattle.cell_base.specs.declared.steps.ChannelOp.TheVariants.{Read, Count, Write}
use Rattle.cell_base.specs.Lanes.{first_word}
use Rattle.cell_base.specs.Records.{field, line_feed, step_line}
use Rattle.spu_regs.specs.Registers.{register}
use Rattle.local_store.specs.Store.{word_at}
use Rattle.mfc_command.specs.declared.command.AtomicOp.{AtomicOp}
use Rattle.cell_host.specs.declared.HostAction.{HostAction}
use Rattle.cell_host.specs.declared.HostAction.TheVariants.{Send, Take as TakeOut, TakeIntr, Signal as SignalTo}
use Rattle.cell_machine.specs.declared.effect.Place.{Place}
use Rattle.cell_machine.specs.declared.effect.Place.TheVariants.{Memory, Local}
use Rattle.cell_machine.specs.declared.effect.Span.{Span}
use Rattle.cell_machine.specs.declared.effect.Note.{Note}
use Rattle.cell_machine.specs.declared.effect.Note.TheVariants.{Nothing, Issue, AtomicIssue, TagRead, StallRead, Ack, AtomicRead, Put, Take, Ended, Awaited, Element, Signal}
use Rattle.cell_machine.specs.declared.effect.Effect.{Effect}
use Rattle.cell_machine.specs.Spe.{Spe}
use Rattle.cell_machine.specs.State.{State}
use Rattle.cell_machine.specs.Exec.{asks}
use Rattle.cell_machine.specs.Effects.{effect_in}
use Rattle.cell_machine.specs.Run.{Ran, state_of, next_of}
use Rattle.cell_trace.specs.declared.looking.Before.{Before}
use Rattle.cell_trace.specs.declared.looking.After.{After}
use Rattle.cell_trace.specs.Fields.{word, named, bit, command_words, atomic_field, status_field}

-- ---- the spans

abbrev pub place_word : Place → List ℕ
place_word Memory = word (codes "mem")
place_word (Local p) = field p

-- the bytes of a span by their place, address and number, where it has some
abbrev pub span_field : List ℕ → Span → List ℕ
span_field name x = if x.len == 0 then [] else named name [] ++ place_word x.place ++ field x.at ++ field x.len

unfoldable pub spans : Effect → List ℕ
spans e = span_field (codes "fetch") e.fetch ++ span_field (codes "read") e.reads ++ span_field (codes "write") e.writes

-- ---- what stands in the machine before the step, and after it

-- the word at an address of a store, 0 where none begins there
abbrev pub store_word : List ℕ → ℕ → ℕ
store_word store at = if nat_lt at 262144 && at % 4 == 0 then word_at store at else 0

abbrev pub word_in : State → ℕ → ℕ → ℕ
word_in M p at = option_map_or (λ P. store_word P.store at) (slice_get M.spes p) 0

-- what the instruction asks of a channel
abbrev pub asked_in : State → Step → Option ChannelOp
asked_in M (Exec p) = option_and_then asks (slice_get M.spes p)
asked_in M s = None

-- the atomic command in the slot of processor p, and the one that the step does
abbrev pub slot_in : State → ℕ → Option AtomicOp
slot_in M p = option_and_then (λ P. P.channels.slot) (slice_get M.spes p)

abbrev pub done_in : State → Step → Option AtomicOp
done_in M (Atomic p) = slot_in M p
done_in M s = None

-- the oldest value of a mailbox
abbrev pub oldest : List ℕ → ℕ
oldest values = slice_index_or values 0 0

-- the value that an action of the host sends, delivers or takes
abbrev pub action_value : State → HostAction → ℕ
action_value M (Send p value) = value
action_value M (SignalTo p r value) = value
action_value M (TakeOut p) = option_map_or (λ P. oldest P.outbound) (slice_get M.spes p) 0
action_value M (TakeIntr p) = option_map_or (λ P. oldest P.interrupt) (slice_get M.spes p) 0
action_value M a = 0

-- the value that a piece of a signal delivers, or with which the host acts
abbrev pub value_in : State → Step → Effect → ℕ
value_in M (Piece p c e k) x = word_in M p x.reads.at
value_in M Host x = option_map_or (action_value M) (slice_get M.host.script M.host.done) 0
value_in M s x = 0

-- the two words of a list's element: its size is in the low 15 bits of the first, and the second is its effective address
abbrev pub size_in : State → Step → Effect → ℕ
size_in M (Elem p c) x = word_in M p x.reads.at % 32768
size_in M s x = 0

abbrev pub address_in : State → Step → Effect → ℕ
address_in M (Elem p c) x = word_in M p (x.reads.at + 4)
address_in M s x = 0

-- before the step, M
abbrev pub before_in : State → Step → Effect → Before
before_in M s e = record { asked = asked_in M s; atomic = done_in M s; value = value_in M s e; size = size_in M s e; ea = address_in M s e }

-- word 0 of a register, 0 where there is none
abbrev pub register_word : Spe → ℕ → ℕ
register_word P r = if nat_lt r 128 then first_word (register P.registers r) else 0

-- what an operation of a channel read, counted or wrote, of the processor after it
abbrev pub passed : Spe → ChannelOp → ℕ
passed P (Read rt ch) = register_word P rt
passed P (Count rt ch) = register_word P rt
passed P (Write ch value) = value

-- of a processor after the step: what passed through the channel, the tag mask, the slot and the unread status of its atomic commands
abbrev pub after_of : Spe → Option ChannelOp → After
after_of P op = record { passed = option_map_or (passed P) op 0; mask = P.tags.mask; slot = P.channels.slot; status = P.channels.atomic }

abbrev pub nothing_after : After
nothing_after = record { passed = 0; mask = 0; slot = None; status = None }

-- after the step, N; the instruction asked so
abbrev pub after_in : State → Step → Option ChannelOp → After
after_in N (Exec p) op = option_map_or (λ P. after_of P op) (slice_get N.spes p) nothing_after
after_in N (Atomic p) op = option_map_or (λ P. after_of P op) (slice_get N.spes p) nothing_after
after_in N s op = nothing_after

-- ---- the fields of what stands there

-- of channels 22 and 23: a tag mask that is set, and a request for a tag status, with the mask that it is made with
abbrev pub tags_field : ℕ → ℕ → ℕ → List ℕ
tags_field ch value mask =
    if ch == 22 then named (codes "mask") (value ∷ [])
    else if ch == 23 then named (codes "request") (value ∷ mask ∷ [])
    else []

-- a channel, and what was read, counted or written
abbrev pub channel_fields : After → ChannelOp → List ℕ
channel_fields after (Read rt ch) = named (codes "rdch") (ch ∷ after.passed ∷ [])
channel_fields after (Count rt ch) = named (codes "rchcnt") (ch ∷ after.passed ∷ [])
channel_fields after (Write ch value) = named (codes "wrch") (ch ∷ after.passed ∷ []) ++ tags_field ch after.passed after.mask

-- the atomic command that was done, and its status
abbrev pub done_fields : After → AtomicOp → List ℕ
done_fields after a = atomic_field a ++ option_map_or status_field after.status []

unfoldable pub own_fields : Before → After → List ℕ
own_fields before after = option_map_or (channel_fields after) before.asked [] ++ option_map_or (done_fields after) before.atomic []

-- the value that goes through a mailbox
abbrev pub value_of : Before → After → ℕ
value_of before after = if is_none before.asked then before.value else after.passed

-- mailboxes are numbered 0 inbound, 1 outbound, 2 interrupt
abbrev pub mailbox_name : ℕ → List ℕ
mailbox_name box = if box == 0 then codes "in" else if box == 1 then codes "out" else codes "intr"

-- a value of a mailbox
abbrev pub mail_field : List ℕ → ℕ → ℕ → ℕ → List ℕ
mail_field name p box value = named name (p ∷ []) ++ word (mailbox_name box) ++ field value

-- a value that comes by a piece or by the host, and not by an instruction that reads
abbrev pub deliver_field : Before → List ℕ
deliver_field before = option_map_or (λ op. []) before.asked (named (codes "deliver") (before.value ∷ []))

-- a signal register
abbrev pub signal_fields : ℕ → ℕ → Before → List ℕ
signal_fields p r before = named (codes "signal") (p ∷ r ∷ []) ++ deliver_field before

-- what a note tells
unfoldable pub note_fields : Note → Before → After → List ℕ
note_fields Nothing before after = []
note_fields (Issue c d) before after = named (codes "issue") [] ++ command_words c d
note_fields AtomicIssue before after = option_map_or atomic_field after.slot []
note_fields (TagRead groups issued) before after = named (codes "tags") (groups ∷ issued ∷ [])
note_fields (StallRead groups) before after = named (codes "stalls") (groups ∷ [])
note_fields (Ack tag) before after = named (codes "ack") (tag ∷ [])
note_fields AtomicRead before after = named (codes "atomicread") []
note_fields (Put p box) before after = mail_field (codes "put") p box (value_of before after)
note_fields (Take p box) before after = mail_field (codes "take") p box (value_of before after)
note_fields Ended before after = named (codes "ended") []
note_fields (Awaited p) before after = named (codes "awaited") (p ∷ [])
note_fields (Element number parts flagged) before after = named (codes "element") (number ∷ parts ∷ bit flagged ∷ before.ea ∷ before.size ∷ [])
note_fields (Signal p r) before after = signal_fields p r before

-- ---- the lines

-- a step as its line in the record, without its end
unfoldable pub step_words : Step → List ℕ
step_words s = take (length (step_line s) - 1) (step_line s)

-- the fields of what passes through channels, and of the step's note
unfoldable pub told_fields : Effect → Before → After → List ℕ
told_fields e before after = own_fields before after ++ note_fields e.note before after ++ (if e.fixed then named (codes "fixed") [] else [])

-- the line of a step of this effect
abbrev pub effect_line : Step → Effect → Before → After → List ℕ
effect_line s e before after = step_words s ++ spans e ++ told_fields e before after ++ line_feed

-- the same of a step from M to N
abbrev pub line_between : State → State → Step → Effect → List ℕ
line_between M N s e = effect_line s e (before_in M s e) (after_in N s (asked_in M s))

-- the line of a step, by the states before it and after it and by its effect
abbrev pub Between : Type 0
Between = State → State → Step → Effect → List ℕ

-- such a line of one more step of a run, None where the budget is spent or the step isn't allowed
unfoldable pub line_by : Between → Ran → Step → Option (List ℕ)
line_by between m s =
    option_and_then (λ M. option_and_then (λ N. option_map (between M N s) (effect_in m s)) (next_of m s)) (state_of m)

-- the line of what it does
abbrev pub line_in : Ran → Step → Option (List ℕ)
line_in m s = line_by line_between m s

-- a run after one more step
abbrev pub grown : Ran → Step → Ran
grown m s = record m { steps = m.steps ++ s ∷ [] }

-- the lines of further steps of a run, a line each, up to the first that isn't allowed; and that step
unfoldable pub lines_by : Between → Ran → List Step → List ℕ
lines_by between m [] = []
lines_by between m (s ∷ steps) = option_map_or (λ line. line ++ lines_by between (grown m s) steps) (line_by between m s) []

abbrev pub lines_in : Ran → List Step → List ℕ
lines_in m steps = lines_by line_between m steps

unfoldable pub refused_in : Ran → List Step → Option Step
refused_in m [] = None
refused_in m (s ∷ steps) = if is_none (line_in m s) then Some s else refused_in (grown m s) steps

-- ---- machines that make steps

-- The first of the steps were made behind those of m, and this one, which is next, isn't allowed there.
pub record StopsAt (m : Ran) (steps : List Step) (n : Ran) (s : Step) : Type 0 where
  pub before : List Step
  pub after : List Step
  pub parts : steps ≡ before ++ s ∷ after
  pub made : n ≡ record m { steps = m.steps ++ before }
  pub refused : next_of n s ≡ None

-- n is m after the steps, or after those before the one that isn't allowed
abbrev pub Makes : Ran → List Step → Ran → Option Step → Type 0
Makes m steps n None = n ≡ record m { steps = m.steps ++ steps }
Makes m steps n (Some s) = StopsAt m steps n s
