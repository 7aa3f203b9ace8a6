-- What is so of each step of a run, as far as it bears on the order of instructions, atomic commands, mailboxes and the host.
use Rattle.std.specs.Prelude.{◌≡◌, ℕ, ◌+◌, ◌<◌, ⊤, true, Some, slice_get, take}
use Rattle.cell_base.specs.declared.steps.Step.{Step}
use Rattle.cell_base.specs.declared.steps.Step.TheVariants.{Exec, Piece, Elem, Retire, Atomic, Host}
use Rattle.cell_machine.specs.declared.effect.Note.{Note}
use Rattle.cell_machine.specs.declared.effect.Note.TheVariants.{AtomicIssue, Put, Take}
use Rattle.race_order.specs.Trace.{Event, Trace, IsStep, Notes, is_put, is_take, puts, takes, mailbox_size}

-- the step is of one of the n processors
abbrev pub IsWithin : ℕ → Step → Type 0
IsWithin n (Exec p) = p < n
IsWithin n (Piece p c e k) = p < n
IsWithin n (Elem p c) = p < n
IsWithin n (Retire p c) = p < n
IsWithin n (Atomic p) = p < n
IsWithin n Host = ⊤

-- a mailbox that the note names is one of theirs
abbrev pub IsNoted : ℕ → Note → Type 0
IsNoted n (Put q m) = (q < n) × (m < 3)
IsNoted n (Take q m) = (q < n) × (m < 3)
IsNoted n _ = ⊤

-- an atomic command of processor p was issued, and its step isn't made
pub record IsTaken (trace : Trace) (p : ℕ) : Type 0 where
  pub place : ℕ
  pub issue : Notes trace place (Exec p) AtomicIssue
  pub none : (k : ℕ) → place < k → IsStep trace k (Atomic p) → ⊥

-- the step may come after these: an atomic step where its command waits, a value out of a mailbox that has one, and into one that has a place for it
pub record MayCome (n : ℕ) (before : Trace) (e : Event) : Type 0 where
  pub within : IsWithin n e.step
  pub noted : IsNoted n e.effect.note
  pub slot : (p : ℕ) → e.step ≡ Atomic p → IsTaken before p
  pub full : (q m : ℕ) → is_take q m e.effect.note ≡ true → takes q m before < puts q m before
  pub free : (q m : ℕ) → is_put q m e.effect.note ≡ true → puts q m before < takes q m before + mailbox_size m

-- each step may come after those before it
abbrev pub IsOrderly : ℕ → Trace → Type 0
IsOrderly n trace = (i : ℕ) (e : Event) → slice_get trace i ≡ Some e → MayCome n (take i trace) e
