-- What the host's step looks at and changes, and what the end of a step does.
use Rattle.std.specs.Prelude.{◌≡◌, ◌≢◌, ℕ, ◌^◌, ◌<◌, nat_lt, not, Bool, true, false, [], ◌∷◌, ◌++◌, length, take, Option, Some, None, is_some, slice_get}
use Rattle.std.specs.Option.{option_map}
use Rattle.std.specs.Int.{bit_at}
use Rattle.cell_base.specs.declared.steps.Step.{Step}
use Rattle.cell_base.specs.declared.steps.Step.TheVariants.{Host}
use Rattle.cell_host.specs.declared.HostAction.{HostAction}
use Rattle.cell_host.specs.declared.HostAction.TheVariants.{Send, Take, TakeIntr, Store, Await, Signal}
use Rattle.cell_host.specs.Script.{advanced}
use Rattle.mfc_command.specs.declared.command.Command.{Command}
use Rattle.tag_groups.specs.declared.Request.{Request}
use Rattle.cell_machine.specs.Spe.{Spe, Moves, is_running}
use Rattle.cell_machine.specs.Memory.{stored}
use Rattle.cell_machine.specs.Moves.{is_complete}
use Rattle.cell_machine.specs.State.{State, with_spe}
use Rattle.cell_machine.specs.Signals.{with_signal}
use Rattle.cell_machine.specs.Raised.{with_raised, raised_at}
use Rattle.cell_machine.specs.Hosts.{host}
use Rattle.cell_machine.specs.Tags.{settled}
use Rattle.cell_machine.specs.Transfers.{Left}
use Rattle.cell_machine.specs.Next.{next, own, with_left, ended_by}
use Rattle.cell_machine.specs.EffectLaws.{maker}
use Rattle.reorder_laws.specs.Boxes.{first_of, later_of}
use Rattle.reorder_laws.specs.Silent.{silent, silent_at}

-- ---- the host

-- whether its processor lets the host do the action
abbrev pub host_may : HostAction → Spe → Bool
host_may (Send p value) P = nat_lt (length P.inbound) 4
host_may (Take p) P = is_some (first_of P.outbound)
host_may (TakeIntr p) P = is_some (first_of P.interrupt)
host_may (Store ea len bytes) P = true
host_may (Await p) P = not (is_running P.status)
host_may (Signal p r value) P = true

-- what the action leaves of its processor
abbrev pub host_leaves : HostAction → Spe → Spe
host_leaves (Send p value) P = record P { inbound = P.inbound ++ value ∷ [] }
host_leaves (Take p) P = record P { outbound = later_of P.outbound }
host_leaves (TakeIntr p) P = record P { interrupt = later_of P.interrupt }
host_leaves (Store ea len bytes) P = P
host_leaves (Await p) P = P
host_leaves (Signal p r value) P = with_signal P r value

-- the value that it takes
abbrev pub host_took : HostAction → Spe → Option ℕ
host_took (Send p value) P = None
host_took (Take p) P = first_of P.outbound
host_took (TakeIntr p) P = first_of P.interrupt
host_took (Store ea len bytes) P = None
host_took (Await p) P = None
host_took (Signal p r value) P = None

-- the host's action on processor p leaves N
pub record IsGiven (M N : State) (p : ℕ) (a : HostAction) : Type 0 where
  pub spe : Spe
  pub at : slice_get M.spes p ≡ Some spe
  pub may : host_may a spe ≡ true
  pub is : N ≡ record (with_spe M p (host_leaves a spe)) { host = advanced M.host (host_took a spe) }

abbrev pub IsActed : State → State → HostAction → Type 0
IsActed M N (Send p value) = IsGiven M N p (Send p value)
IsActed M N (Take p) = IsGiven M N p (Take p)
IsActed M N (TakeIntr p) = IsGiven M N p (TakeIntr p)
IsActed M N (Store ea len bytes) = N ≡ record M { memory = stored M.memory ea (take len bytes); host = advanced M.host None }
IsActed M N (Await p) = IsGiven M N p (Await p)
IsActed M N (Signal p r value) = IsGiven M N p (Signal p r value)

pub record IsHost (M N : State) : Type 0 where
  pub action : HostAction
  pub at : slice_get M.host.script M.host.done ≡ Some action
  pub acted : IsActed M N action

abbrev pub HostLeaves : Type 0
HostLeaves = (M N : State) → host M ≡ Some N → IsHost M N

abbrev pub HostMade : Type 0
HostMade = (M N : State) → IsHost M N → host M ≡ Some N

-- ---- a step in the whole state

-- the step of processor p leaves N; the signals and events that it sends and raises stand in `is` alone
pub record IsNext (M N : State) (s : Step) (p : ℕ) : Type 0 where
  pub spe : Spe
  pub at : slice_get M.spes p ≡ Some spe
  pub left : Left
  pub owns : own M.memory s spe ≡ Some left
  pub is : N ≡ ended_by M s (with_left M p left)
  pub here : silent_at N p ≡ Some (silent (settled left.spe))
  pub elsewhere : (q : ℕ) → q ≢ p → silent_at N q ≡ option_map (λ Q. silent (settled Q)) (slice_get M.spes q)

abbrev pub NextLeaves : Type 0
NextLeaves = (M N : State) (s : Step) (p : ℕ) → maker s ≡ Some p → next M s ≡ Some N → IsNext M N s p

abbrev pub NextMade : Type 0
NextMade = (M : State) (s : Step) (p : ℕ) (P : Spe) (x : Left) → maker s ≡ Some p → slice_get M.spes p ≡ Some P → own M.memory s P ≡ Some x
    → next M s ≡ Some (ended_by M s (with_left M p x))

abbrev pub HostNext : Type 0
HostNext = (M N : State) → next M Host ≡ Some N → (K : State) × (host M ≡ Some K) × (N ≡ ended_by M Host K)

-- ---- the end of a step

-- a processor is settled then, with the events that the step raised pending
abbrev pub ClosedThere : Type 0
ClosedThere = (M K : State) (s : Step) (q : ℕ) (P : Spe) → slice_get K.spes q ≡ Some P → slice_get (ended_by M s K).spes q ≡ Some (settled (with_raised P (raised_at M s K q)))

abbrev pub SettledTwice : Type 0
SettledTwice = (P : Spe) → settled (settled P) ≡ settled P

-- each processor of a state that a step leaves is settled
abbrev pub NextSettles : Type 0
NextSettles = (M N : State) (s : Step) (p : ℕ) (P : Spe) → next M s ≡ Some N → slice_get N.spes p ≡ Some P → settled P ≡ P

-- where no request is pending the end of a step changes nothing
abbrev pub SettledIdle : Type 0
SettledIdle = (P : Spe) → P.tags.request ≡ None → settled P ≡ P

-- no outstanding command is of a group of the mask
abbrev pub AreQuiet : Moves → ℕ → Type 0
AreQuiet m mask = (c : ℕ) (d : Command) → slice_get m.issued c ≡ Some d → is_complete m c ≡ false → bit_at mask d.tag ≡ 0

-- a request for all groups is pending where one of them has a command outstanding
abbrev pub SettledLater : Type 0
SettledLater = (P : Spe) (r : Request) (c : ℕ) (d : Command) → P.tags.request ≡ Some r → 1 < r.how
    → slice_get P.moves.issued c ≡ Some d → is_complete P.moves c ≡ false → bit_at r.mask d.tag ≡ 1 → settled P ≡ P

-- P with a tag status of these groups, and no request
abbrev pub with_status : Spe → ℕ → Spe
with_status P groups = record P { tags = record { mask = P.tags.mask; request = None; status = Some (record { groups = groups; issued = length P.moves.issued }) } }

-- and becomes the status of all its groups where none has
abbrev pub SettledNow : Type 0
SettledNow = (P : Spe) (r : Request) → P.tags.request ≡ Some r → 1 < r.how → r.mask < 2 ^ 32 → ((c : ℕ) (d : Command) → slice_get P.moves.issued c ≡ Some d → d.tag < 32)
    → AreQuiet P.moves r.mask → settled P ≡ with_status P r.mask
