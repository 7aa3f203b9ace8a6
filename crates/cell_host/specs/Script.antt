-- A script and how far it has come.
use Rattle.std.specs.Prelude.{◌≡◌, ℕ, ◌+◌, ◌<◌, ◌≤◌, Bool, true, false, List, [], ◌∷◌, ◌++◌, length, take, Option, Some, None, slice_get, count_by, All as Each}
use Rattle.std.specs.Option.{option_map_or}
use Rattle.cell_host.specs.declared.Took.{Took}
use Rattle.cell_host.specs.declared.HostAction.{HostAction}
use Rattle.cell_host.specs.declared.HostAction.TheVariants.{Send, Take, TakeIntr, Store, Await, Signal}

-- a script, how many of its actions were done, and the values that these took, the earliest first
pub record Progress : Type 0 where
  pub script : List HostAction
  pub done : ℕ
  pub took : List Took

-- whether an action takes a value
abbrev pub takes : HostAction → Bool
takes (Send spe value) = false
takes (Take spe) = true
takes (TakeIntr spe) = true
takes (Store ea len bytes) = false
takes (Await spe) = false
takes (Signal spe register value) = false

-- whether the next action takes a value
abbrev pub next_takes : Progress → Bool
next_takes p = option_map_or takes (slice_get p.script p.done) false

-- no action done, and no value taken
abbrev pub opening : List HostAction → Progress
opening script = record { script = script; done = 0; took = [] }

-- one more action done, and its value, if it took one, behind the others
abbrev pub advanced : Progress → Option ℕ → Progress
advanced p None = record { script = p.script; done = p.done + 1; took = p.took }
advanced p (Some value) = record { script = p.script; done = p.done + 1; took = p.took ++ record { action = p.done; value = value } ∷ [] }

-- each value was taken by an action that was done
abbrev pub ArePlaced : ℕ → List Took → Type 0
ArePlaced done took = Each (λ t. t.action < done) took

-- each action that was done and takes a value has taken one, and there is room for the values of all
pub record IsSound (script : List HostAction) (done taken room : ℕ) : Type 0 where
  pub few : length script ≤ 4096
  pub within : done ≤ length script
  pub each : taken ≡ count_by takes (take done script)
  pub enough : count_by takes script ≤ room
