-- What a shadow shows of the steps so far.
use Rattle.std.specs.Prelude.{◌≡◌, ℕ, ◌+◌, ◌/◌, ◌<◌, ◌⊎◌, Bool, true, false, List, length, Option, Some, IfSome, slice_get, slice_index, []}
use Rattle.cell_machine.specs.declared.effect.Place.{Place}
use Rattle.cell_machine.specs.declared.effect.Span.{Span}
use Rattle.cell_machine.specs.Sound.{covers}
use Rattle.race_check.specs.declared.access.Access.{Access}
use Rattle.race_check.specs.declared.entry.Entry.{Entry}
use Rattle.race_check.specs.declared.line.Line.{Line}
use Rattle.race_check.specs.declared.shadow.Shadow.{Shadow}
use Rattle.race_check.specs.Races.{RaceBy, TellsLatest}
use Rattle.race_check.specs.Slots.{slot_of}
use Rattle.race_check.specs.Entries.{Holds}
use Rattle.race_check.specs.Crowds.{IsSafe, UpTo}
use Rattle.race_check.specs.Lines.{InLine}

-- the number of the list that has what is kept of a line of a place
abbrev pub list_of : Shadow → Place → ℕ → ℕ
list_of shadow p line = slice_index shadow.numbers (slot_of (length shadow.numbers) p line)

-- how a step touches a byte: it writes it, or at least reads it
pub data Touch (a : Access) (p : Place) (x : ℕ) : Bool → Type 0 where
  Fetched : covers a.fetch p x ≡ true → Touch a p x false
  Reads : covers a.reads p x ≡ true → Touch a p x false
  Writes : {w : Bool} → covers a.writes p x ≡ true → Touch a p x w

-- the step touches the byte so
pub record IsReal (steps : List Access) (s : ℕ) (p : Place) (x : ℕ) (w : Bool) : Type 0 where
  pub access : Access
  pub at : slice_get steps s ≡ Some access
  pub touch : Touch access p x w

-- a kept step at the byte stands for an access by the step at i
pub record Kept (Before : ℕ → ℕ → Type 0) (shadow : Shadow) (i : ℕ) (p : Place) (x : ℕ) (w : Bool) : Type 0 where
  pub line : Line
  pub at : slice_get shadow.lists.items (list_of shadow p (x / 128)) ≡ Some line
  pub step : ℕ
  pub inside : InLine line w step p x
  pub safe : IsSafe Before i step

-- what is kept in the first shadow is kept in the second
pub record KeepsAll (Before : ℕ → ℕ → Type 0) (before after : Shadow) : Type 0 where
  pub keeps : (i : ℕ) (p : Place) (x : ℕ) (w : Bool) → Kept Before before i p x w → Kept Before after i p x w

-- each list stands where it stood, and what was added is empty
pub record IsLengthened (before after : Shadow) : Type 0 where
  pub left : (p : Place) (line : ℕ) (list : Line) → slice_get before.lists.items (list_of before p line) ≡ Some list → slice_get after.lists.items (list_of after p line) ≡ Some list
  pub rest : (k : ℕ) (list : Line) → slice_get after.lists.items k ≡ Some list → (slice_get before.lists.items k ≡ Some list) ⊎ ((list.writes.items ≡ []) × (list.reads.items ≡ []))

-- each kept step is below j, and touches the byte so
pub record AreReal (steps : List Access) (shadow : Shadow) (j : ℕ) : Type 0 where
  pub below : (k : ℕ) (line : Line) (w : Bool) (s : ℕ) (p : Place) (x : ℕ) → slice_get shadow.lists.items k ≡ Some line → InLine line w s p x → s < j
  pub real : (k : ℕ) (line : Line) (w : Bool) (s : ℕ) (p : Place) (x : ℕ) → slice_get shadow.lists.items k ≡ Some line → InLine line w s p x → IsReal steps s p x w

-- each access by each of the first j steps has a kept step that stands for it, and no step is kept for nothing
pub record Shows (Before : ℕ → ℕ → Type 0) (steps : List Access) (shadow : Shadow) (j : ℕ) : Type 0 where
  pub kept : (i : ℕ) (a : Access) (p : Place) (x : ℕ) (w : Bool) → i < j → slice_get steps i ≡ Some a → Touch a p x w → Kept Before shadow i p x w
  pub real : AreReal steps shadow j

-- ---- visits

-- an entry that writes, or only reads, is an access of its step
abbrev pub IsAccess : List Access → Entry → Bool → Type 0
IsAccess steps e writes = (p : Place) (x : ℕ) (w : Bool) → Holds e p x → (w ≡ true → writes ≡ true) → IsReal steps e.step p x w

-- the entry, whose bytes are in the line, was taken in, and this is the latest step that raced with it, None where none did
pub record TakesEntry (Before : ℕ → ℕ → Type 0) (before after : Shadow) (entry : Entry) (writes : Bool) (line : ℕ) (latest : Option ℕ) : Type 0 where
  pub keeps : KeepsAll Before before after
  pub own : (p : Place) (x : ℕ) → Holds entry p x → x / 128 ≡ line → Kept Before after entry.step p x writes
  pub real : (steps : List Access) → IsAccess steps entry writes → AreReal steps before (entry.step + 1) → AreReal steps after (entry.step + 1)
  pub clear : (i : ℕ) (p : Place) (x : ℕ) (w : Bool) → Kept Before before i p x w → Holds entry p x → x / 128 ≡ line → (w ≡ true) ⊎ (writes ≡ true) → IsSafe Before i entry.step ⊎ UpTo latest i
  pub race : IfSome latest (λ i. (steps : List Access) → IsAccess steps entry writes → AreReal steps before (entry.step + 1) → RaceBy Before steps i entry.step)

-- the same of a span
abbrev pub IsSpanOf : List Access → ℕ → Span → Bool → Type 0
IsSpanOf steps step span writes = (p : Place) (x : ℕ) (w : Bool) → covers span p x ≡ true → (w ≡ true → writes ≡ true) → IsReal steps step p x w

pub record TakesSpan (Before : ℕ → ℕ → Type 0) (before after : Shadow) (span : Span) (step : ℕ) (writes : Bool) (latest : Option ℕ) : Type 0 where
  pub keeps : KeepsAll Before before after
  pub own : (p : Place) (x : ℕ) → covers span p x ≡ true → Kept Before after step p x writes
  pub real : (steps : List Access) → IsSpanOf steps step span writes → AreReal steps before (step + 1) → AreReal steps after (step + 1)
  pub clear : (i : ℕ) (p : Place) (x : ℕ) (w : Bool) → Kept Before before i p x w → covers span p x ≡ true → (w ≡ true) ⊎ (writes ≡ true) → IsSafe Before i step ⊎ UpTo latest i
  pub race : IfSome latest (λ i. (steps : List Access) → IsSpanOf steps step span writes → AreReal steps before (step + 1) → RaceBy Before steps i step)

-- and of a whole step of a run, which has this access
pub record TakesStep (Before : ℕ → ℕ → Type 0) (before after : Shadow) (access : Access) (step : ℕ) (latest : Option ℕ) : Type 0 where
  pub shows : (steps : List Access) → slice_get steps step ≡ Some access → Shows Before steps before step → Shows Before steps after (step + 1)
  pub told : (steps : List Access) → slice_get steps step ≡ Some access → Shows Before steps before step → TellsLatest (RaceBy Before steps) step latest
