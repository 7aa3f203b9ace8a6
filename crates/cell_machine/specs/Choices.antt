-- The allowed steps of a flow controller, by their places.
use Rattle.std.specs.Prelude.{ℕ, ◌%◌, Bool, false, List, [], length, filter, flat_map, map, nat_lt, if◌then◌else◌, Option, None, is_some, slice_get}
use Rattle.std.specs.List.{range_with_len}
use Rattle.std.specs.Option.{option_and_then, option_map_or}
use Rattle.cell_base.specs.declared.steps.Actor.TheVariants.{Spu, Mfc}
use Rattle.cell_base.specs.declared.steps.Step.{Step}
use Rattle.cell_base.specs.declared.steps.Step.TheVariants.{Exec, Piece, Elem, Retire, Atomic, Host}
use Rattle.cell_machine.specs.Spe.{Spe}
use Rattle.cell_machine.specs.Transfers.{may_piece, may_elem, may_retire}
use Rattle.cell_machine.specs.Atomic.{may_atomic}
use Rattle.cell_machine.specs.State.{State}
use Rattle.cell_machine.specs.Moves.{outstanding}
use Rattle.cell_machine.specs.Next.{next}
use Rattle.cell_machine.specs.Run.{Ran, state_of, steps_of_number, steps_of_mfc, allowed}

-- whether the flow controller of P may make the step
abbrev pub may : Spe → Step → Bool
may P (Piece p c e k) = may_piece P c e k
may P (Retire p c) = may_retire P c
may P (Exec p) = false
may P (Elem p c) = may_elem P c
may P (Atomic p) = may_atomic P
may P Host = false

-- the allowed steps of command c of processor p
abbrev pub allowed_of_number : ℕ → Spe → ℕ → List Step
allowed_of_number p P c = filter (may P) (steps_of_number p P c)

-- the allowed steps of the flow controller of processor p: its atomic command, and then those of its queued ones
abbrev pub allowed_of_mfc : ℕ → Spe → List Step
allowed_of_mfc p P = filter (may P) (steps_of_mfc p P)

-- the allowed steps of all processors, and of all flow controllers
abbrev pub all_of_spus : State → List Step
all_of_spus M = flat_map (allowed M) (map Spu (range_with_len 0 (length M.spes)))

abbrev pub all_of_mfcs : State → List Step
all_of_mfcs M = flat_map (allowed M) (map Mfc (range_with_len 0 (length M.spes)))

-- the steps that the outstanding command at an index of a flow controller's queue can come to make, none behind the last one
abbrev pub steps_of_queued : ℕ → ℕ → Spe → List Step
steps_of_queued p index P = option_map_or (steps_of_number p P) (slice_get (outstanding P) index) []

-- those that are allowed, by its processor alone
abbrev pub allowed_at : ℕ → Spe → ℕ → List Step
allowed_at p P index = option_map_or (allowed_of_number p P) (slice_get (outstanding P) index) []

-- and by the machine
abbrev pub allowed_of_queued : State → ℕ → ℕ → List Step
allowed_of_queued M p index = filter (λ s. is_some (next M s)) (option_map_or (steps_of_queued p index) (slice_get M.spes p) [])

-- the one of them at the place that is the choice's remainder
abbrev pub picked_queued : State → ℕ → ℕ → ℕ → Option Step
picked_queued M p index choice = slice_get (allowed_of_queued M p index) (choice % length (allowed_of_queued M p index))

-- the same under the budget
abbrev pub queued_of : Ran → ℕ → ℕ → ℕ → Option Step
queued_of m p index choice =
    if nat_lt (length m.steps) m.setup.budget then option_and_then (λ M. picked_queued M p index choice) (state_of m) else None
