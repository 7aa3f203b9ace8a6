-- The steps with which the processors of a run end.
use Rattle.std.specs.Prelude.{◌≡◌, ℕ, ◌<◌, List, Some, All, Contains, slice_get}
use Rattle.std.specs.List.{AllPairs}
use Rattle.cell_base.specs.declared.steps.Step.{Step}
use Rattle.cell_machine.specs.declared.effect.Effect.{Effect}
use Rattle.cell_machine.specs.declared.effect.Note.{Note}
use Rattle.cell_machine.specs.declared.effect.Note.TheVariants.{Ended as TheEnd}
use Rattle.cell_machine.specs.Effects.{effect_in}
use Rattle.cell_machine.specs.Run.{Ran}
use Rattle.cell_hunt.specs.declared.ending.Ended.{Ended}
use Rattle.cell_hunt.specs.Sites.{IsSite, up_to}

-- the effect of the step at this place has this note
pub record HasNote (m : Ran) (place : ℕ) (note : Note) : Type 0 where
  pub step : Step
  pub effect : Effect
  pub at : slice_get m.steps place ≡ Some step
  pub told : effect_in (up_to m place) step ≡ Some effect
  pub is : effect.note ≡ note

-- with the step at this place a processor ceases to run
abbrev pub EndsAt : Ran → ℕ → Type 0
EndsAt m place = HasNote m place TheEnd

-- it is such a step, and comes from this site
pub record IsEnding (m : Ran) (e : Ended) : Type 0 where
  pub ends : EndsAt m e.step
  pub site : IsSite m e.step e.site

-- the entry is of this step
pub record HasEnding (endings : List Ended) (place : ℕ) : Type 0 where
  pub ending : Ended
  pub inside : Contains endings ending
  pub is : ending.step ≡ place

-- an entry for each step with which a processor ends, in the order of these steps
pub record AreAllEndings (m : Ran) (endings : List Ended) : Type 0 where
  pub each : All (IsEnding m) endings
  pub all : (place : ℕ) → EndsAt m place → HasEnding endings place
  pub ascend : AllPairs (λ a b. a.step < b.step) endings
