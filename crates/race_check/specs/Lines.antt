-- What a line has, and what becomes of it when a new entry comes.
use Rattle.std.specs.Prelude.{◌≡◌, ℕ, Bool, true, false, ◌⊎◌, Option, IfSome}
use Rattle.cell_machine.specs.declared.effect.Place.{Place}
use Rattle.race_check.specs.declared.entry.Entry.{Entry}
use Rattle.race_check.specs.declared.line.Line.{Line}
use Rattle.race_check.specs.Entries.{Holds}
use Rattle.race_check.specs.Crowds.{Has, IsSafe, IsUnsafe, UpTo}

-- the line has the step at the byte as one that writes, or at least as one that reads
abbrev pub InLine : Line → Bool → ℕ → Place → ℕ → Type 0
InLine line w s p x = Has line.writes.items s p x ⊎ ((w ≡ false) × Has line.reads.items s p x)

-- the step is one of the line, has a byte of the new entry, one of the two writes, and it is neither the new one nor before it
pub record LineClashes (Before : ℕ → ℕ → Type 0) (new : Entry) (writes : Bool) (before : Line) (step : ℕ) : Type 0 where
  pub kind : Bool
  pub place : Place
  pub at : ℕ
  pub has : InLine before kind step place at
  pub in_new : Holds new place at
  pub one_writes : (kind ≡ true) ⊎ (writes ≡ true)
  pub unsafe : IsUnsafe Before step new.step

-- This is the latest such step, None where there is none. The new entry is there, only bytes of it are lost, of steps before it, and nothing else is added.
pub record IsVisited (Before : ℕ → ℕ → Type 0) (new : Entry) (writes : Bool) (before after : Line) (latest : Option ℕ) : Type 0 where
  pub clash : IfSome latest (LineClashes Before new writes before)
  pub clear : (w : Bool) (s : ℕ) (p : Place) (x : ℕ) → InLine before w s p x → Holds new p x → (w ≡ true) ⊎ (writes ≡ true) → IsSafe Before s new.step ⊎ UpTo latest s
  pub left : (w : Bool) (s : ℕ) (p : Place) (x : ℕ) → InLine before w s p x → InLine after w s p x ⊎ (InLine after w new.step p x × IsSafe Before s new.step)
  pub own : (p : Place) (x : ℕ) → Holds new p x → InLine after writes new.step p x
  pub rest : (w : Bool) (s : ℕ) (p : Place) (x : ℕ) → InLine after w s p x → InLine before w s p x ⊎ ((w ≡ true → writes ≡ true) × Holds new p x × (s ≡ new.step))
