-- What a worker's pass knows before its turns, and once they have ended.
use Rattle.std.specs.Prelude.{◌≡◌, ℕ, ◌+◌, ◌≤◌, List, [], ◌∷◌, ◌++◌, length}
use mathlib.Core.List.{IsPrefix}
use Rattle.cell_base.specs.declared.steps.Step.{Step}
use Rattle.cell_machine.specs.Run.{HasEnd}
use Rattle.cell_turn.specs.Choice.{ran}
use Rattle.cell_turn.specs.Known.{Known, Sharing, Belongs, Rests}
use Rattle.cell_turn.specs.Told.{Stays}

-- the places rise, from `from` on and below `upto`
abbrev pub Rises : ℕ → ℕ → List (ℕ × Step) → Type 0
Rises from upto [] = from ≤ upto
Rises from upto (t ∷ ts) = (from ≤ t.0) × Rises (t.0 + 1) upto ts

-- the pass q has seen all that p had seen, and was told of further steps, which stand at rising places from the old front on
pub record Further (p q : Known) : Type 0 where
  pub same : Stays p q
  pub begins : IsPrefix p.seen q.seen
  pub more : List (ℕ × Step)
  pub told : q.told ≡ p.told ++ more
  pub rises : Rises (length p.seen) (length q.seen) more

-- and what it has seen has an end, and it has not the turn
pub record Worked (p q : Known) : Type 0 where
  pub further : Further p q
  pub rests : Rests q
  pub ended : HasEnd (ran q.setup q.seen)

-- a pass with one token
abbrev pub IsNew : Known → Sharing → Type 0
IsNew p s = (p.tokens ≡ 1) × Belongs p s

-- which has seen a record that has an end
abbrev pub IsDone : Known → Sharing → Type 0
IsDone p s = IsNew p s × HasEnd (ran p.setup p.seen)
