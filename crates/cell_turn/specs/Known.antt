-- What contracts see of a pass and of the shared machine, and what a told step means.
use Rattle.std.specs.Prelude.{◌≡◌, ℕ, ◌<◌, ◌==◌, Bool, false, List, length, Some, slice_get, count_by, All}
use Rattle.atomic_table.specs.Seated.{TableId}
use Rattle.cell_base.specs.declared.steps.Step.{Step}
use Rattle.cell_machine.specs.Opening.{Opening}

-- a pass
pub record Known : Type 0 where
  pub table : TableId  -- of the shared machine that it is for, as are the next two
  pub setup : Opening
  pub passes : ℕ
  pub seen : List Step  -- a beginning of the record
  pub told : List (ℕ × Step)  -- the steps that it made, each with its place in the record
  pub tokens : ℕ  -- its share of the passes
  pub tries : ℕ  -- how often it asked for the turn
  pub found : ℕ  -- the turn word that it found last
  pub holds : Bool  -- whether it has the turn

-- the shared machine
pub record Sharing : Type 0 where
  pub table : TableId
  pub setup : Opening  -- that of the machine that was put in
  pub passes : ℕ  -- how many passes there may be at a time

-- the pass is one of this shared machine
abbrev pub Belongs : Known → Sharing → Type 0
Belongs p s = (p.table ≡ s.table) × (p.setup ≡ s.setup) × (p.passes ≡ s.passes)

-- the pass has not the turn
abbrev pub Rests : Known → Type 0
Rests p = p.holds ≡ false

-- the step stands in the record at the place that was told
abbrev pub Stands : List Step → ℕ × Step → Type 0
Stands steps t = slice_get steps t.0 ≡ Some t.1

-- how often a place was told
abbrev pub times : ℕ → List (ℕ × Step) → ℕ
times place told = count_by (λ t. t.0 == place) told

-- each step of the record was told once, at its place
pub record TellsAll (told : List (ℕ × Step)) (steps : List Step) : Type 0 where
  pub same_length : length told ≡ length steps
  pub each_stands : All (Stands steps) told
  pub each_once : (place : ℕ) → place < length steps → times place told ≡ 1
