-- What is kept of where the steps of a run come from.
use Rattle.std.specs.Prelude.{◌≡◌, ℕ, ◌<◌, true, false, List, [], length, map, Some, slice_get, slice_index, slice_index_or, Vec}
use Rattle.std.specs.Global.{Global}
use Rattle.cell_base.specs.declared.steps.Step.{Step}
use Rattle.cell_base.specs.declared.steps.Step.TheVariants.{Exec, Piece, Elem, Retire, Atomic, Host}
use Rattle.cell_machine.specs.declared.effect.Note.{Note}
use Rattle.cell_machine.specs.Run.{Ran}
use Rattle.cell_hunt.specs.declared.origins.Origins.{Origins}
use Rattle.cell_hunt.specs.Sites.{HasPc, IsOrigin, Issues, actions_before, issues_for}

-- what is kept for the commands of processor p
abbrev pub commands_of : List (Vec ℕ Global) → ℕ → List ℕ
commands_of lists p = slice_index_or (map (λ (list : Vec ℕ Global). list.items) lists) p []

-- what is kept for the command that the step is of
abbrev pub issued_in : List (Vec ℕ Global) → List ℕ → Step → ℕ
issued_in commands atomics (Piece q c x k) = slice_index (commands_of commands q) c
issued_in commands atomics (Elem q c) = slice_index (commands_of commands q) c
issued_in commands atomics (Retire q c) = slice_index (commands_of commands q) c
issued_in commands atomics (Atomic q) = slice_index atomics q
issued_in commands atomics (Exec q) = 0
issued_in commands atomics Host = 0

abbrev pub issued_at : Origins → Step → ℕ
issued_at o of = issued_in o.commands.items o.atomics.items of

-- what an instruction of processor p at this address issues is kept, and nothing else is changed
pub record IsIssued (p : ℕ) (note : Note) (at : ℕ) (old new : Origins) : Type 0 where
  pub here : (of : Step) → issues_for of p note ≡ true → issued_at new of ≡ at
  pub left : (of : Step) → issues_for of p note ≡ false → issued_at new of ≡ issued_at old of

-- so is what a step issues
abbrev pub IsPassed : Step → Note → ℕ → Origins → Origins → Type 0
IsPassed (Exec p) note at old new = IsIssued p note at old new
IsPassed step note at old new = (of : Step) → issued_at new of ≡ issued_at old of

-- each step comes from where it says
abbrev pub AreOrigins : Ran → List ℕ → Type 0
AreOrigins m origins = (place : ℕ) (of : Step) (at : ℕ) → slice_get m.steps place ≡ Some of → slice_get origins place ≡ Some at → IsOrigin m place of at

-- of each command the address of the last instruction that issued one of its number is kept
abbrev pub TellsIssues : Ran → Origins → Type 0
TellsIssues m o = (of : Step) (k p : ℕ) → k < length m.steps → Issues m of k p → ((l q : ℕ) → k < l → l < length m.steps → Issues m of l q → ⊥) → HasPc m k p (issued_at o of)

-- it knows where each step of the run comes from, and what the next one needs for that
pub record Knows (m : Ran) (o : Origins) : Type 0 where
  pub long : length o.steps.items ≡ length m.steps
  pub told : AreOrigins m o.steps.items
  pub actions : o.actions ≡ actions_before m (length m.steps)
  pub issues : TellsIssues m o
