-- The steps among which a choice is made: one of each who has an allowed step.
use Rattle.std.specs.Prelude.{◌≡◌, ℕ, zero, suc, ◌<◌, ◌≤◌, List, [], ◌∷◌, ◌++◌, length, Some, is_some, if◌then◌else◌, option_to_list, slice_get}
use Rattle.std.specs.Option.{option_map_or}
use Rattle.cell_base.specs.declared.steps.Step.{Step}
use Rattle.cell_base.specs.declared.steps.Step.TheVariants.{Exec, Atomic, Host}
use Rattle.cell_machine.specs.Spe.{Spe}
use Rattle.cell_machine.specs.Moves.{outstanding}
use Rattle.cell_machine.specs.Choices.{queued_of}
use Rattle.cell_machine.specs.Run.{Ran, next_of, spe_of}

-- a step, if it is allowed
abbrev pub offered : Ran → Step → List Step
offered m s = if is_some (next_of m s) then s ∷ [] else []

-- of each of the first n queued commands of processor p the allowed step that a word picks, if the command has one
unfoldable pub offered_by_queue : Ran → ℕ → ℕ → ℕ → List Step
offered_by_queue m word p zero = []
offered_by_queue m word p (suc n) = offered_by_queue m word p n ++ option_to_list (queued_of m p n word)

-- how many commands its queue holds
abbrev pub queue_length : Ran → ℕ → ℕ
queue_length m p = option_map_or (λ (P : Spe). length (outstanding P)) (spe_of m p) 0

-- its instruction, the command in its atomic slot, and its queued commands
abbrev pub offered_by : Ran → ℕ → ℕ → List Step
offered_by m word p = (offered m (Exec p) ++ offered m (Atomic p)) ++ offered_by_queue m word p (queue_length m p)

-- those of the first n processors
unfoldable pub offered_by_first : Ran → ℕ → ℕ → List Step
offered_by_first m word zero = []
offered_by_first m word (suc n) = offered_by_first m word n ++ offered_by m word n

-- and the host's
abbrev pub offers : Ran → ℕ → List Step
offers m word = offered_by_first m word (length m.setup.entries) ++ offered m Host

-- the first step with the greatest key
pub record IsGreatest (key : Step → ℕ) (steps : List Step) (s : Step) : Type 0 where
  pub index : ℕ
  pub is : slice_get steps index ≡ Some s
  pub greatest : (k : ℕ) (t : Step) → slice_get steps k ≡ Some t → key t ≤ key s
  pub first : (k : ℕ) (t : Step) → k < index → slice_get steps k ≡ Some t → key t < key s
