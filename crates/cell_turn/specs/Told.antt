-- What the start, a split, a try, a turn and a join tell a caller.
use Rattle.std.specs.Prelude.{◌≡◌, ◌⊎◌, ℕ, false, ◌+◌, ◌*◌, ◌%◌, ◌-◌, ◌^◌, ◌<◌, ◌≤◌, [], ◌∷◌, ◌++◌, length, take, Some, None}
use mathlib.Core.List.{IsPrefix}
use Rattle.cell_base.specs.declared.steps.Actor.{Actor}
use Rattle.cell_base.specs.declared.steps.Step.{Step}
use Rattle.cell_machine.specs.declared.status.End.{End}
use Rattle.cell_machine.specs.Run.{EndsAs}
use Rattle.cell_turn.specs.Choice.{ran, chosen}
use Rattle.cell_turn.specs.Known.{Known, Sharing}
use Rattle.cell_turn.specs.declared.shared.Tried.{Tried}
use Rattle.cell_turn.specs.declared.shared.Tried.TheVariants as tried
use Rattle.cell_turn.specs.declared.shared.Turned.{Turned}
use Rattle.cell_turn.specs.declared.shared.Turned.TheVariants as turned

-- the first pass of a shared machine, with all tokens
abbrev pub first_pass : Sharing → Known
first_pass s = record { table = s.table; setup = s.setup; passes = s.passes; seen = []; told = []; tokens = s.passes; tries = 0; found = 0; holds = false }

-- what a split leaves of a pass
abbrev pub left_pass : Known → Known
left_pass p = record p { tokens = p.tokens - 1 }

-- the new pass that comes of it: it has one token and has seen as much, and made no step
abbrev pub new_pass : Known → Known
new_pass p = record p { told = []; tokens = 1; tries = 0; found = 0 }

-- A step was made at the place `at`, at or above what had been seen: the one that the actor has for this choice after the record's first `at` steps.
-- The record, as far as it is now seen, begins with what had been seen and ends with the step, of which the pass is told.
pub record Makes (p q : Known) (actor : Actor) (choice at : ℕ) (step : Step) : Type 0 where
  pub not_below : length p.seen ≤ at
  pub begins : IsPrefix p.seen q.seen
  pub place : length q.seen ≡ at + 1
  pub short : at + 1 < 2 ^ 32
  pub last : q.seen ≡ take at q.seen ++ step ∷ []
  pub told : q.told ≡ p.told ++ (at, step) ∷ []
  pub found : q.found ≡ 2 * at
  pub choice_made : chosen (ran p.setup (take at q.seen)) actor choice ≡ Some step
  pub was_open : EndsAs (ran p.setup (take at q.seen)) None

-- the record, which is now seen whole, begins with what had been seen, and has this end
pub record IsOver (p q : Known) (end : End) : Type 0 where
  pub begins : IsPrefix p.seen q.seen
  pub is_end : EndsAs (ran p.setup q.seen) (Some end)
  pub told : q.told ≡ p.told
  pub found : q.found ≡ 2 * length q.seen

-- another pass had the turn, and so this one has not all tokens
pub record IsBusy (p q : Known) (turn : ℕ) : Type 0 where
  pub found : q.found ≡ turn
  pub odd : turn % 2 ≡ 1
  pub late : 2 * length p.seen + 1 ≤ turn
  pub seen : q.seen ≡ p.seen
  pub told : q.told ≡ p.told
  pub others : p.tokens < p.passes

abbrev pub Tells : Known → Known → Actor → ℕ → Tried → Type 0
Tells p q actor choice (tried.Made at step) = Makes p q actor choice at step
Tells p q actor choice (tried.Over end) = IsOver p q end
Tells p q actor choice (tried.Busy turn) = IsBusy p q turn

-- the same of a turn that was got
abbrev pub TurnTells : Known → Known → Actor → ℕ → Turned → Type 0
TurnTells p q actor choice (turned.Made at step) = Makes p q actor choice at step
TurnTells p q actor choice (turned.Over end) = IsOver p q end

-- what a try leaves as it was
abbrev pub Stays : Known → Known → Type 0
Stays p q = (q.table ≡ p.table) × (q.setup ≡ p.setup) × (q.passes ≡ p.passes) × (q.tokens ≡ p.tokens)

-- r is p with the tokens and the steps of q too, and has seen what the one of them had seen that saw more
pub record Joined (p q r : Known) : Type 0 where
  pub same : r ≡ record p { seen = r.seen; told = p.told ++ q.told; tokens = p.tokens + q.tokens }
  pub begins : IsPrefix p.seen r.seen
  pub begins_other : IsPrefix q.seen r.seen
  pub longer : (r.seen ≡ p.seen) ⊎ (r.seen ≡ q.seen)
