-- The order of the commands of a processor, and that they keep their numbers and stay complete, on a run.
use Rattle.std.specs.Prelude.{◌≡◌, ℕ, ◌==◌, ◌&&◌, Bool, true, false, List, ◌++◌, ◌∷◌, Some}
use Rattle.cell_base.specs.declared.steps.Step.{Step}
use Rattle.cell_base.specs.declared.steps.Step.TheVariants.{Exec, Piece, Elem, Retire, Atomic, Host}
use Rattle.mfc_command.specs.declared.command.Command.{Command}
use Rattle.mfc_command.specs.Order.{goes_before}
use Rattle.cell_machine.specs.Spe.{Spe}
use Rattle.cell_machine.specs.Moves.{is_complete}
use Rattle.cell_machine.specs.Run.{Ran, spe_of}

-- a run, after its first steps alone
abbrev pub after_steps : Ran → List Step → Ran
after_steps m steps = record m { steps = steps }

-- whether it is a step of command d of processor p
abbrev pub is_step_of : ℕ → ℕ → Step → Bool
is_step_of p d (Piece q c e k) = q == p && c == d
is_step_of p d (Elem q c) = q == p && c == d
is_step_of p d (Retire q c) = q == p && c == d
is_step_of p d (Exec q) = false
is_step_of p d (Atomic q) = false
is_step_of p d Host = false

-- each step of a command stands behind the place at which each command that goes before it became complete,
-- what is complete at a place is complete at every later place, and later commands are issued behind those of a place,
-- so that a number names one command for the whole run
pub record IsInOrder (m : Ran) : Type 0 where
  pub waits : (before after : List Step) (s : Step) (p c d : ℕ) (P : Spe) → m.steps ≡ before ++ s ∷ after → is_step_of p d s ≡ true
      → spe_of (after_steps m before) p ≡ Some P → goes_before P.moves.issued c d ≡ true → is_complete P.moves c ≡ true
  pub stays : (before between after : List Step) (p c : ℕ) (P Q : Spe) → m.steps ≡ before ++ between ++ after
      → spe_of (after_steps m before) p ≡ Some P → spe_of (after_steps m (before ++ between)) p ≡ Some Q
      → is_complete P.moves c ≡ true → is_complete Q.moves c ≡ true
  pub grows : (before between after : List Step) (p : ℕ) (P Q : Spe) → m.steps ≡ before ++ between ++ after
      → spe_of (after_steps m before) p ≡ Some P → spe_of (after_steps m (before ++ between)) p ≡ Some Q
      → (later : List Command) × (Q.moves.issued ≡ P.moves.issued ++ later)
