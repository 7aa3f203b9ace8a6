-- The values that a run loses. A kind of loss names a value: that of a signal register, an atomic status or a tag status of a processor.
use Rattle.std.specs.Prelude.{◌≡◌, ◌≢◌, ℕ, ◌<◌, ◌≤◌, ⊤, Bool, true, false, not, ◌&&◌, ◌||◌, ◌==◌, List, ◌∷◌, [], ◌++◌, take, Option, Some, None, slice_get, All, Contains}
use Rattle.std.specs.List.{AllPairs}
use Rattle.cell_base.specs.declared.steps.Step.{Step}
use Rattle.cell_base.specs.declared.steps.Step.TheVariants.{Exec, Piece, Elem, Retire, Atomic, Host}
use Rattle.cell_machine.specs.declared.effect.Effect.{Effect}
use Rattle.cell_machine.specs.declared.effect.Note.{Note}
use Rattle.cell_machine.specs.declared.effect.Note.TheVariants.{AtomicRead, TagRead, Signal as Signalled}
use Rattle.cell_machine.specs.Effects.{effect_in}
use Rattle.cell_machine.specs.Opening.{Opening, is_or}
use Rattle.cell_machine.specs.Run.{Ran}
use Rattle.lost_values.specs.declared.loss.Loss.{Loss}
use Rattle.lost_values.specs.declared.loss.LossKind.{LossKind}
use Rattle.lost_values.specs.declared.loss.LossKind.TheVariants.{Signal, FailedStore, TagStatus}

-- ---- steps that set and read values

-- whether the step executes an instruction, and whether one of processor p
abbrev pub is_instruction : Step → Bool
is_instruction (Exec q) = true
is_instruction _ = false

abbrev pub is_instruction_of : Step → ℕ → Bool
is_instruction_of (Exec q) p = q == p
is_instruction_of _ p = false

-- whether it is the atomic command of processor p
abbrev pub is_atomic_of : Step → ℕ → Bool
is_atomic_of (Atomic q) p = q == p
is_atomic_of _ p = false

-- whether it is a step of processor p or of its MFC
abbrev pub is_of : Step → ℕ → Bool
is_of (Exec q) p = q == p
is_of (Piece q c x k) p = q == p
is_of (Elem q c) p = q == p
is_of (Retire q c) p = q == p
is_of (Atomic q) p = q == p
is_of Host p = false

-- whether the note is of signal register r of processor p
abbrev pub is_signal_of : Note → ℕ → ℕ → Bool
is_signal_of (Signalled q s) p r = q == p && s == r
is_signal_of _ p r = false

abbrev pub is_atomic_read : Note → Bool
is_atomic_read AtomicRead = true
is_atomic_read _ = false

abbrev pub is_tag_read : Note → Bool
is_tag_read (TagRead groups issued) = true
is_tag_read _ = false

-- Whether a step with this effect sets the value. An instruction takes a signal, and any other step with its note delivers one.
abbrev pub sets : LossKind → Step → Effect → Bool
sets (Signal p r) s e = is_signal_of e.note p r && not (is_instruction s)
sets (FailedStore p) s e = is_atomic_of s p
sets (TagStatus p) s e = e.fixed && is_of s p

-- whether it reads the value
abbrev pub reads : LossKind → Step → Effect → Bool
reads (Signal p r) s e = is_signal_of e.note p r && is_instruction s
reads (FailedStore p) s e = is_instruction_of s p && is_atomic_read e.note
reads (TagStatus p) s e = is_instruction_of s p && is_tag_read e.note

-- whether an atomic command with this effect is a PUTLLC that fails: of the atomic commands only that writes no byte
abbrev pub is_failed : Effect → Bool
is_failed e = e.writes.len == 0

-- Whether the loss of such a value is a bug. A register in OR mode keeps the bits of all values that are delivered to it.
abbrev pub counts : Opening → LossKind → Effect → Bool
counts S (Signal p r) e = (r == 1 || r == 2) && not (is_or S p r)
counts S (FailedStore p) e = is_failed e
counts S (TagStatus p) e = true

-- whether it sets a value whose loss is a bug
abbrev pub sets_counted : Opening → LossKind → Step → Effect → Bool
sets_counted S x s e = sets x s e && counts S x e

-- ---- losses of a run

-- the run up to its step at this place
abbrev pub up_to : Ran → ℕ → Ran
up_to m place = record m { steps = take place m.steps }

-- the step at this place of the run passes the test with its effect
pub record Passes (m : Ran) (test : Step → Effect → Bool) (place : ℕ) : Type 0 where
  pub step : Step
  pub effect : Effect
  pub at : slice_get m.steps place ≡ Some step
  pub told : effect_in (up_to m place) step ≡ Some effect
  pub is : test step effect ≡ true

-- step i sets the value, step j replaces it, and no step reads it
pub record IsReplaced (m : Ran) (x : LossKind) (i j : ℕ) : Type 0 where
  pub lost : Passes m (sets_counted m.setup x) i
  pub by : Passes m (sets x) j
  pub before : i < j
  pub kept : (k : ℕ) → i < k → k < j → Passes m (sets x) k → ⊥
  pub unread : (k : ℕ) → i < k → k ≤ j → Passes m (reads x) k → ⊥

-- step i sets the value, and until the end of the run no step replaces it or reads it
pub record IsUnread (m : Ran) (x : LossKind) (i : ℕ) : Type 0 where
  pub lost : Passes m (sets_counted m.setup x) i
  pub kept : (k : ℕ) → i < k → Passes m (sets x) k → ⊥
  pub unread : (k : ℕ) → i < k → Passes m (reads x) k → ⊥

abbrev pub is_store : LossKind → Bool
is_store (FailedStore p) = true
is_store _ = false

-- step j replaces the value that step i set; with no j the run ends with the unread status of a failed PUTLLC
abbrev pub IsLost : Ran → LossKind → ℕ → Option ℕ → Type 0
IsLost m x i (Some j) = IsReplaced m x i j
IsLost m x i None = (is_store x ≡ true) × IsUnread m x i

abbrev pub IsLoss : Ran → Loss → Type 0
IsLoss m l = IsLost m l.kind l.lost l.by

-- by these places, where None is the end of the run, the one is lost no later than the other
abbrev pub IsNoLater : Option ℕ → Option ℕ → Type 0
IsNoLater _ None = ⊤
IsNoLater None (Some j) = ⊥
IsNoLater (Some i) (Some j) = i ≤ j

-- each loss of the run once, in the order of the steps that replace the values
pub record AreAllLosses (m : Ran) (losses : List Loss) : Type 0 where
  pub each : All (IsLoss m) losses
  pub all : (l : Loss) → IsLoss m l → Contains losses l
  pub once : AllPairs (λ a b. a ≢ b) losses
  pub order : AllPairs (λ a b. IsNoLater a.by b.by) losses

-- ---- a run as it is made

-- the run with one more step
abbrev pub with_step : Ran → Step → Ran
with_step m s = record m { steps = m.steps ++ s ∷ [] }
