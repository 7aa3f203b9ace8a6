-- What the code's parts stand for.
use Rattle.std.specs.Prelude.{◌≡◌, ℕ, ◌+◌, ◌%◌, ◌≤◌, ◌<◌, ◌==◌, ◌&&◌, not, if◌then◌else◌, Bool, true, false, IfSome, map, List, [], ◌∷◌, length, Option, Some, None, All, slice_get, slice_set}
use Rattle.std.specs.Option.{option_map_or}
use Rattle.cell_base.specs.Bits.{has_bit}
use Rattle.cell_base.specs.declared.steps.Step.{Step}
use Rattle.cell_machine.specs.declared.commands.Commands.{Commands}
use Rattle.cell_machine.specs.declared.memory.SharedMemory.{SharedMemory}
use Rattle.cell_machine.specs.declared.processor.Processor.{Processor}
use Rattle.cell_base.specs.declared.steps.Step.TheVariants.{Host}
use Rattle.lock_lines.specs.Versions.{Reserved, is_current}
use Rattle.lock_lines.specs.Stands.{StandsForVersions, line_count}
use Rattle.mfc_command.specs.declared.command.Command.{Command}
use Rattle.mfc_command.specs.declared.command.Order.TheVariants.{Atomic}
use Rattle.mfc_command.specs.Check.{OrderFits}
use Rattle.mfc_lists.specs.declared.Element.{Element}
use Rattle.mfc_lists.specs.declared.ListState.{ListState}
use Rattle.mfc_lists.specs.Elements.{ElementFits}
use Rattle.mfc_lists.specs.Readings.{StandsFor as StandsForReading, with_element}
use Rattle.cell_machine.specs.Spe.{Spe, Moves}
use Rattle.cell_machine.specs.Memory.{MainMemory}
use Rattle.cell_machine.specs.Transfers.{Left, has_part, has_element}
use Rattle.cell_machine.specs.MovesShown.{ShowsQueue, reading}
use Rattle.cell_machine.specs.Tags.{settled}
use Rattle.cell_signals.specs.Registers.{register_of}
use Rattle.cell_machine.specs.declared.events.Load.{Load}
use Rattle.cell_machine.specs.declared.signals.Delivery.{Delivery}
use Rattle.cell_machine.specs.declared.signals.RemoteChange.{RemoteChange}
use Rattle.cell_machine.specs.Signals.{with_signal}
use Rattle.cell_machine.specs.Raised.{is_queue_full, has_stall, with_raised}
use Rattle.cell_machine.specs.OwnEvents.{alone, with_own}
use Rattle.cell_machine.specs.Next.{closed_in}
use Rattle.cell_machine.specs.Kept.{MovesFit}
use Rattle.cell_machine.specs.State.{State}
use Rattle.cell_machine.specs.Opening.{Opening, opening}
use Rattle.cell_machine.specs.Limits.{FitsAction, IsRegister, IsOpening}
use Rattle.cell_machine.specs.Run.{replay}
use Rattle.cell_host.specs.Script.{Progress}
use Rattle.cell_host.specs.declared.HostAction.{HostAction}
use Rattle.cell_host.specs.declared.HostAction.TheVariants.{Send, Take, TakeIntr, Store, Await, Signal}
use Rattle.cell_machine.specs.declared.hosts.Taken.{Taken}
use Rattle.cell_machine.specs.Hosts.{Given, Acted}

-- the queue and how far its commands have come are what the written machine has of its commands
abbrev pub ShowsCommands : Commands → Moves → Type 0
ShowsCommands c m = ShowsQueue c.queue c.progress m

-- one more command may be issued
pub record CanIssue (commands : Commands) : Type 0 where
  pub moves : Moves
  pub shows : ShowsCommands commands moves
  pub few : length moves.issued < 1000000

-- part k of command c may be marked
pub record CanMark (commands : Commands) (c k : ℕ) : Type 0 where
  pub moves : Moves
  pub command : Command
  pub elem : ℕ
  pub shows : ShowsCommands commands moves
  pub at : slice_get moves.issued c ≡ Some command
  pub has : has_part moves c elem k command ≡ true

-- the element x of command c was read into this state of it
pub record HasRead (commands : Commands) (c : ℕ) (state : ListState) (x : Element) : Type 0 where
  pub moves : Moves
  pub command : Command
  pub shows : ShowsCommands commands moves
  pub at : slice_get moves.issued c ≡ Some command
  pub has : has_element moves c command ≡ true
  pub stands : StandsForReading state (with_element (reading moves c command) x)

-- the processor is what the written machine has
pub record ShowsSpe (c : Processor) (P : Spe) : Type 0 where
  pub status : P.status ≡ c.status
  pub pc : P.pc ≡ c.pc
  pub registers : P.registers ≡ c.registers
  pub store : P.store ≡ c.store
  pub inbound : P.inbound ≡ c.inbound
  pub outbound : P.outbound ≡ c.outbound
  pub interrupt : P.interrupt ≡ c.interrupt
  pub channels : P.channels ≡ c.channels
  pub tags : P.tags ≡ c.tags
  pub signals : P.signals ≡ c.signals
  pub events : P.events ≡ c.events
  pub queue : ShowsCommands c.commands P.moves

-- what is behind its channels is
pub record ShowsChannels (c : Processor) (P : Spe) : Type 0 where
  pub channels : P.channels ≡ c.channels
  pub tags : P.tags ≡ c.tags
  pub signals : P.signals ≡ c.signals
  pub events : P.events ≡ c.events
  pub queue : ShowsCommands c.commands P.moves
  pub inbound : P.inbound ≡ c.inbound
  pub outbound : P.outbound ≡ c.outbound
  pub interrupt : P.interrupt ≡ c.interrupt

-- the lists are as long, and each two elements at one place are so
abbrev pub AllTwo : {X Y : Type 0} → (X → Y → Type 0) → List X → List Y → Type 0
AllTwo R [] [] = Unit {0}
AllTwo R (x ∷ xs) (y ∷ ys) = R x y × AllTwo R xs ys
AllTwo R [] (y ∷ ys) = ⊥
AllTwo R (x ∷ xs) [] = ⊥

-- the memory is what the written machine has, and its lines' words are the versions with these reservations of the processors
pub record ShowsMemory (c : SharedMemory) (m : MainMemory) (reserved : List (Option Reserved)) : Type 0 where
  pub bytes : m.bytes ≡ c.bytes
  pub versions : StandsForVersions c.locks (record { lines = m.versions; spes = reserved })

-- what each processor reserved
abbrev pub reservations : List Spe → List (Option Reserved)
reservations spes = map (λ P. P.reserved) spes

-- the processors, the memory and the host are the written machine's
pub record Shows (processors : List Processor) (memory : SharedMemory) (host : Progress) (M : State) : Type 0 where
  pub spes : AllTwo ShowsSpe processors M.spes
  pub memory_is : ShowsMemory memory M.memory (reservations M.spes)
  pub host_is : M.host ≡ host

-- ---- what a step tells of events

abbrev pub load_of : Spe → Load
load_of P = record { is_full = is_queue_full (alone P); has_stall = has_stall (alone P) }

-- the event of a signal register, and a value delivered with it
abbrev pub event_of : ℕ → ℕ
event_of r = if r == 1 then 0x200 else 0x100

abbrev pub informed : Spe → ℕ → ℕ → Spe
informed P r value = with_raised (with_signal P r value) (if not (register_of P.signals r).ready then event_of r else 0)

abbrev pub informed_in : List Spe → Delivery → List Spe
informed_in spes d = option_map_or (λ P. slice_set spes d.spe (informed P d.register d.value)) (slice_get spes d.spe) spes

abbrev pub informed_by : List Spe → Option Delivery → List Spe
informed_by spes o = option_map_or (informed_in spes) o spes

abbrev pub IsDelivery : Option Delivery → Type 0
IsDelivery o = IfSome o (λ d. IsRegister d.register)

-- a processor with its number, after a store that ended the reservations of these
abbrev pub lost_by : ℕ → ℕ × Spe → Spe
lost_by losers x = if has_bit losers x.0 then with_raised x.1 0x400 else x.1

-- whether a reservation is current in this memory, and whether it was and is not any more
abbrev pub is_held : MainMemory → Option Reserved → Bool
is_held m o = option_map_or (λ r. is_current m.versions r.line r) o false

abbrev pub is_lost : MainMemory → MainMemory → Option Reserved → Bool
is_lost m n o = is_held m o && not (is_held n o)

-- the processors, as bits, whose reservation is lost, all or all but one
pub record Loses (losers : ℕ) (m : MainMemory) (reserved : List (Option Reserved)) (n : MainMemory) : Type 0 where
  pub each : (p : ℕ) (o : Option Reserved) → p < 16 → slice_get reserved p ≡ Some o → has_bit losers p ≡ is_lost m n o

abbrev pub LosesOthers : ℕ → ℕ → MainMemory → List (Option Reserved) → MainMemory → Type 0
LosesOthers spe losers m reserved n = (p : ℕ) (o : Option Reserved) → p < 16 → slice_get reserved p ≡ Some o → has_bit losers p ≡ (is_lost m n o && not (spe == p))

-- the change in other processors is the one that the specification's step leaves
pub record IsRemoteChange (r : RemoteChange) (m : MainMemory) (reserved : List (Option Reserved)) (x : Left) : Type 0 where
  pub sent : x.sent ≡ r.sent
  pub losers : Loses r.losers m reserved x.memory

-- an element that is a signal
pub record IsSignal (x : Element) : Type 0 where
  pub size : x.size ≡ 4
  pub aligned : x.ls % 4 ≡ 0
  pub store : x.ls + x.size ≤ 262144
  pub register : x.ea ≤ 31

-- both come, in this relation, or none
abbrev pub Makes : {X Y : Type 0} → Option X → Option Y → (X → Y → Type 0) → Type 0
Makes None None R = Unit {0}
Makes (Some x) (Some y) R = R x y
Makes None (Some y) R = ⊥
Makes (Some x) None R = ⊥

-- ---- the host

-- a processor is settled
abbrev pub IsStill : Spe → Type 0
IsStill P = settled P ≡ P

-- a register that an action names is there
abbrev pub NamesRegister : HostAction → Type 0
NamesRegister (Send p value) = Unit {0}
NamesRegister (Take p) = Unit {0}
NamesRegister (TakeIntr p) = Unit {0}
NamesRegister (Store ea len bytes) = Unit {0}
NamesRegister (Await p) = Unit {0}
NamesRegister (Signal p r value) = IsRegister r

-- what an action took from P, and what it leaves of it, with its events
abbrev pub Gives : Spe → Option Taken → Option Given → Processor → Type 0
Gives P None None c = Unit {0}
Gives P (Some t) (Some g) c = ShowsSpe c (with_own P g.spe) × (g.took ≡ t.value)
Gives P None (Some g) c = ⊥
Gives P (Some t) None c = ⊥

-- and what it leaves of a state
abbrev pub Leaves : State → Option Taken → Option Acted → List Processor → SharedMemory → Progress → Type 0
Leaves M None None processors memory host = Unit {0}
Leaves M (Some t) (Some d) processors memory host = Shows processors memory host (closed_in M Host d.state) × (d.took ≡ t.value)
Leaves M None (Some d) processors memory host = ⊥
Leaves M (Some t) None processors memory host = ⊥

-- it has words for so many lines and processors
abbrev pub HasSize : ℕ → ℕ → SharedMemory → Type 0
HasSize lines spes memory = (line_count memory.locks ≡ lines) × (memory.locks.spes ≡ spes)

-- the memory has some lines, and the action fits
pub record Fits (spes : ℕ) (memory : SharedMemory) (action : HostAction) : Type 0 where
  pub lines : ℕ
  pub size : HasSize lines spes memory
  pub fits : FitsAction lines spes action

-- the memory has some lines, and each action of the script fits
pub record IsFit (spes : ℕ) (memory : SharedMemory) (host : Progress) : Type 0 where
  pub lines : ℕ
  pub size : HasSize lines spes memory
  pub actions : All (FitsAction lines spes) host.script

-- all processors are settled
abbrev pub AreSettled : List Spe → Type 0
AreSettled spes = map settled spes ≡ spes

-- at most n commands were issued, and they, their elements and the atomic command in the slot fit so many lines of memory, of which there is one
pub record IsBounded (lines n : ℕ) (P : Spe) : Type 0 where
  pub some : 0 < lines
  pub few : length P.moves.issued ≤ n
  pub fits : MovesFit lines P.moves.issued
  pub elements : All (λ r. ElementFits lines r.element) P.moves.read
  pub slot : IfSome P.channels.slot (λ a. OrderFits lines (Atomic a))

abbrev pub AreBounded : ℕ → ℕ → List Spe → Type 0
AreBounded lines n spes = (p : ℕ) (P : Spe) → slice_get spes p ≡ Some P → IsBounded lines n P

-- it is some processor of the written machine, by which one more command may be issued, and what was issued and read fits
pub record CanStep (lines : ℕ) (c : Processor) : Type 0 where
  pub spe : Spe
  pub shows : ShowsSpe c spe
  pub bounded : IsBounded lines 999999 spe

-- each processor can make a step, and the memory has some lines
pub record CanGo (processors : List Processor) (memory : SharedMemory) : Type 0 where
  pub lines : ℕ
  pub size : HasSize lines (length processors) memory
  pub each : All (CanStep lines) processors

-- the processors, the memory and the host stand for the replay of the steps from the setup, and the record has room for a run
pub record IsMachine (setup : Opening) (steps : List Step) (capacity : ℕ) (processors : List Processor) (memory : SharedMemory) (host : Progress) : Type 0 where
  pub setup_is : IsOpening setup
  pub room : setup.budget ≤ capacity
  pub within : length steps ≤ setup.budget
  pub small : setup.budget ≤ 1000000
  pub some : 0 < length setup.entries
  pub many : length processors ≤ 16
  pub count : length processors ≡ length setup.entries
  pub state : State
  pub replayed : replay (opening setup) steps ≡ Some state
  pub shown : Shows processors memory host state
  pub settled : AreSettled state.spes
  pub bounded : AreBounded setup.lines (length steps) state.spes
  pub size : HasSize setup.lines (length processors) memory
  pub script : host.script ≡ setup.actions
  pub actions : All (FitsAction setup.lines (length setup.entries)) setup.actions
