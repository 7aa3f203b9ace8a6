-- Runs of the written machine, and how they end.
use Rattle.std.specs.Prelude.{◌≡◌, ℕ, ◌<◌, ◌≤◌, ◌%◌, Bool, true, false, not, ◌&&◌, ◌==◌, nat_lt, if◌then◌else◌, List, [], ◌∷◌, ◌++◌, length, map, filter, flat_map, Option, Some, None, is_some, is_none, IsSome, IsSomeAnd, slice_get}
use Rattle.std.specs.List.{list_all, range_with_len}
use Rattle.std.specs.Option.{option_and_then, option_map_or}
use Rattle.cell_base.specs.declared.steps.Actor.{Actor}
use Rattle.cell_base.specs.declared.steps.Actor.TheVariants.{Spu, Mfc, Host as TheHost}
use Rattle.cell_base.specs.declared.steps.Step.{Step}
use Rattle.cell_base.specs.declared.steps.Step.TheVariants.{Exec, Piece, Elem, Retire, Atomic, Host}
use Rattle.cell_machine.specs.declared.status.End.{End}
use Rattle.cell_machine.specs.declared.status.End.TheVariants.{AllStopped, Stuck, Budget}
use Rattle.cell_machine.specs.Spe.{Spe, ElementRead, is_running}
use Rattle.cell_machine.specs.State.{State}
use Rattle.mfc_command.specs.declared.command.Command.{Command}
use Rattle.mfc_lists.specs.declared.Element.{Element}
use Rattle.cell_machine.specs.Moves.{outstanding, present, parts_in}
use Rattle.cell_machine.specs.Next.{next}
use Rattle.cell_machine.specs.Opening.{Opening, opening}

-- the state after these steps, None where one isn't allowed
abbrev pub replay : State → List Step → Option State
replay M [] = Some M
replay M (s ∷ steps) = option_and_then (λ N. replay N steps) (next M s)

-- what a Machine stands for: a setup, and the steps of a run from it
pub record Ran : Type 0 where
  pub setup : Opening
  pub steps : List Step

-- the steps are a run from the setup
abbrev pub IsRun : Opening → List Step → Type 0
IsRun setup steps = IsSome (replay (opening setup) steps) × (length steps ≤ setup.budget)

abbrev pub state_of : Ran → Option State
state_of m = replay (opening m.setup) m.steps

-- the state of processor p
abbrev pub spe_of : Ran → ℕ → Option Spe
spe_of m p = option_and_then (λ M. slice_get M.spes p) (state_of m)

-- the state after one more step, None where the budget is spent or the step isn't allowed
abbrev pub next_of : Ran → Step → Option State
next_of m s = if nat_lt (length m.steps) m.setup.budget then option_and_then (λ M. next M s) (state_of m) else None

-- the pieces of an element, in the order of its parts
abbrev pub pieces_of : ℕ → ℕ → Element → List Step
pieces_of p c x = map (Piece p c x.number) (range_with_len 0 (parts_in x))

-- the steps that command c of processor p, which is d, can come to make now, in order
abbrev pub steps_of_command : ℕ → List ElementRead → ℕ → Command → List Step
steps_of_command p read c d = Elem p c ∷ Retire p c ∷ option_map_or (pieces_of p c) (present read c d) []

abbrev pub steps_of_number : ℕ → Spe → ℕ → List Step
steps_of_number p P c = option_map_or (steps_of_command p P.moves.read c) (slice_get P.moves.issued c) []

-- the steps that a processor's flow controller can come to make, in order: its atomic command, and then its outstanding ones
abbrev pub steps_of_mfc : ℕ → Spe → List Step
steps_of_mfc p P = Atomic p ∷ flat_map (steps_of_number p P) (outstanding P)

-- the steps that an actor can come to make, in order
abbrev pub steps_of : State → Actor → List Step
steps_of M (Spu p) = Exec p ∷ []
steps_of M (Mfc p) = option_map_or (steps_of_mfc p) (slice_get M.spes p) []
steps_of M TheHost = Host ∷ []

-- those of them that are allowed
abbrev pub allowed : State → Actor → List Step
allowed M actor = filter (λ s. is_some (next M s)) (steps_of M actor)

-- all actors, in order
abbrev pub actors : State → List Actor
actors M =
    map Spu (range_with_len 0 (length M.spes)) ++ map Mfc (range_with_len 0 (length M.spes)) ++ TheHost ∷ []

-- the allowed step at the place that is the choice's remainder
abbrev pub picked : State → Actor → ℕ → Option Step
picked M actor choice = slice_get (allowed M actor) (choice % length (allowed M actor))

-- the first allowed step of the first actor that has one
abbrev pub first_allowed : State → Option Step
first_allowed M = slice_get (flat_map (allowed M) (actors M)) 0

abbrev pub HasEnded : State → Type 0
HasEnded M = (s : Step) → next M s ≡ None

abbrev pub CanGoOn : State → Type 0
CanGoOn M = (s : Step) × IsSome (next M s)

-- whether no processor runs, no slot is taken and no command is outstanding
abbrev pub is_quiet_spe : Spe → Bool
is_quiet_spe P = not (is_running P.status) && is_none P.channels.slot && length (outstanding P) == 0

abbrev pub is_quiet : State → Bool
is_quiet M = list_all is_quiet_spe M.spes

-- the end word of a machine with this budget, None where it is open
abbrev pub IsEnd : State → ℕ → Option End → Type 0
IsEnd M budget (Some AllStopped) = HasEnded M × (is_quiet M ≡ true)
IsEnd M budget (Some Stuck) = HasEnded M × (is_quiet M ≡ false)
IsEnd M budget (Some Budget) = CanGoOn M × (length M.steps ≡ budget)
IsEnd M budget None = CanGoOn M × (length M.steps < budget)

-- the end word of the run, None where it can go on
abbrev pub EndsAs : Ran → Option End → Type 0
EndsAs m end = IsSomeAnd (state_of m) (λ M. IsEnd M m.setup.budget end)

abbrev pub HasEnd : Ran → Type 0
HasEnd m = (e : End) × EndsAs m (Some e)

-- what these choose under the budget
abbrev pub picked_of : Ran → Actor → ℕ → Option Step
picked_of m actor choice =
    if nat_lt (length m.steps) m.setup.budget then option_and_then (λ M. picked M actor choice) (state_of m) else None

abbrev pub first_of : Ran → Option Step
first_of m = if nat_lt (length m.steps) m.setup.budget then option_and_then first_allowed (state_of m) else None
