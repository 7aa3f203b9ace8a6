-- The steps of a run that read bytes of a local store that nothing wrote.
use Rattle.std.specs.Prelude.{◌≡◌, ℕ, ◌+◌, ◌<◌, ◌⊎◌, Bool, true, false, ◌&&◌, ◌||◌, ◌==◌, nat_le, nat_lt, List, ◌∷◌, [], ◌++◌, take, length, Some, slice_get, All, Contains}
use Rattle.std.specs.List.{AllPairs, list_any}
use Rattle.cell_base.specs.declared.steps.Step.{Step}
use Rattle.cell_base.specs.declared.steps.Step.TheVariants.{Exec}
use Rattle.cell_machine.specs.declared.effect.Effect.{Effect}
use Rattle.cell_machine.specs.declared.effect.Place.TheVariants.{Local}
use Rattle.cell_machine.specs.declared.effect.Span.{Span}
use Rattle.cell_machine.specs.Effects.{effect_in}
use Rattle.cell_machine.specs.Opening.{Opening, Placed}
use Rattle.cell_machine.specs.Run.{Ran}
use Rattle.cell_machine.specs.Sound.{covers}
use Rattle.unwritten_reads.specs.declared.unwritten.Unwritten.{Unwritten}

-- ---- steps and bytes

abbrev pub is_instruction : Step → Bool
is_instruction (Exec p) = true
is_instruction _ = false

-- whether the span has byte x of processor p's local store
abbrev pub is_in : Span → ℕ → ℕ → Bool
is_in span p x = covers span (Local p) x

-- whether a step with this effect reads or writes the byte; to fetch an instruction isn't to read it
abbrev pub touches : Effect → ℕ → ℕ → Bool
touches e p x = is_in e.reads p x || is_in e.writes p x

-- whether the machine file placed the byte
abbrev pub places : Placed → ℕ → ℕ → Bool
places b p x = b.spe == p && (nat_le b.at x && nat_lt x (b.at + length b.bytes))

abbrev pub is_placed : Opening → ℕ → ℕ → Bool
is_placed S p x = list_any (λ b. places b p x) S.placed

-- ---- unwritten reads of a run

-- the run up to its step at this place
abbrev pub up_to : Ran → ℕ → Ran
up_to m place = record m { steps = take place m.steps }

-- the step at this place of the run has this effect
pub record IsMade (m : Ran) (place : ℕ) (s : Step) (e : Effect) : Type 0 where
  pub at : slice_get m.steps place ≡ Some s
  pub effect : effect_in (up_to m place) s ≡ Some e

-- a step before place i touches byte x of processor p's local store
pub record IsTouched (m : Ran) (i p x : ℕ) : Type 0 where
  pub place : ℕ
  pub step : Step
  pub effect : Effect
  pub before : place < i
  pub made : IsMade m place step effect
  pub touch : touches effect p x ≡ true

-- The byte is known before the step at place i: the machine file placed it, or an earlier step wrote or read it. A read counts, too,
-- so no byte is reported twice.
abbrev pub IsKnown : Ran → ℕ → ℕ → ℕ → Type 0
IsKnown m i p x = (is_placed m.setup p x ≡ true) ⊎ IsTouched m i p x

-- The step at u.place reads bytes that aren't known, and u.at is the address of the first one. An instruction loads a whole quadword even
-- if the program uses one byte of it, so a load counts only if no byte of the quadword is known.
pub record IsUnwritten (m : Ran) (u : Unwritten) : Type 0 where
  pub step : Step
  pub effect : Effect
  pub made : IsMade m u.place step effect
  pub read : is_in effect.reads u.spe u.at ≡ true
  pub unknown : IsKnown m u.place u.spe u.at → ⊥
  pub first : (x : ℕ) → x < u.at → is_in effect.reads u.spe x ≡ true → IsKnown m u.place u.spe x
  pub none : is_instruction step ≡ true → (x : ℕ) → is_in effect.reads u.spe x ≡ true → IsKnown m u.place u.spe x → ⊥

-- each such step once, in the order of the run
pub record AreAllUnwritten (m : Ran) (reads : List Unwritten) : Type 0 where
  pub each : All (IsUnwritten m) reads
  pub all : (u : Unwritten) → IsUnwritten m u → Contains reads u
  pub order : AllPairs (λ u v. u.place < v.place) reads

-- ---- a run as it is made

-- the run with one more step
abbrev pub with_step : Ran → Step → Ran
with_step m s = record m { steps = m.steps ++ s ∷ [] }
