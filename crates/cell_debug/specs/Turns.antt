-- Turns, each of which makes a step.
use Rattle.std.specs.Prelude.{ℕ, zero, suc, ◌+◌, ◌-◌, ◌*◌, ◌%◌, ◌==◌, ◌&&◌, nat_lt, Bool, false, List, [], ◌∷◌, ◌++◌, length, Option, None, if◌then◌else◌}
use Rattle.std.specs.Option.{option_map, option_map_or, option_or}
use Rattle.cell_base.specs.declared.steps.Actor.{Actor}
use Rattle.cell_base.specs.declared.steps.Actor.TheVariants.{Spu, Mfc, Host}
use Rattle.cell_base.specs.declared.steps.Step.{Step}
use Rattle.cell_machine.specs.Spe.{is_running}
use Rattle.cell_machine.specs.Run.{Ran, picked_of, first_of, spe_of}

-- the step of a turn: the actor's own for this choice where it has one, and otherwise the first that is allowed
abbrev pub chosen : Ran → Actor → ℕ → Option Step
chosen m actor choice = option_or (picked_of m actor choice) (first_of m)

-- the run after a step
abbrev pub made : Ran → Step → Ran
made m s = record m { steps = m.steps ++ s ∷ [] }

-- the run after a turn; None where no step is allowed
abbrev pub turn : Ran → Actor → ℕ → Option Ran
turn m actor choice = option_map (made m) (chosen m actor choice)

-- the run after n turns of an actor with a choice, or fewer where it ends before
unfoldable pub turns : ℕ → Actor → ℕ → Ran → Ran
turns zero actor choice m = m
turns (suc n) actor choice m = option_map_or (turns n actor choice) (turn m actor choice) m

-- the actor of a number: the processors, their flow controllers, the host
abbrev pub actor_of : ℕ → ℕ → Actor
actor_of spes n = if nat_lt n spes then Spu n else if nat_lt n (2 * spes) then Mfc (n - spes) else Host

-- the run after turn t, where all actors take turns
abbrev pub round_turn : ℕ → Ran → Option Ran
round_turn t m = turn m (actor_of (length m.setup.entries) (t % (2 * length m.setup.entries + 1))) t

-- processor p runs, and is at this address
abbrev pub runs_at : ℕ → ℕ → Ran → Bool
runs_at p at m = option_map_or (λ P. is_running P.status && P.pc == at) (spe_of m p) false

-- the same, unless processor p runs at the address
abbrev pub turn_until : ℕ → ℕ → ℕ → Ran → Option Ran
turn_until t p at m = if runs_at p at m then None else round_turn t m

-- the run after n turns from turn t on, or fewer where processor p comes to run at the address or the run ends
unfoldable pub turns_until : ℕ → ℕ → ℕ → ℕ → Ran → Ran
turns_until zero t p at m = m
turns_until (suc n) t p at m = option_map_or (turns_until n (t + 1) p at) (turn_until t p at m) m
