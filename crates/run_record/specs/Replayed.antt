-- Steps that are no run.
use Rattle.std.specs.Prelude.{◌≡◌, ℕ, ◌⊎◌, List, [], ◌∷◌, ◌++◌, length, Result, Err}
use Rattle.cell_base.specs.declared.steps.Step.{Step}
use Rattle.cell_machine.specs.Opening.{Opening}
use Rattle.cell_machine.specs.Run.{IsRun}
use Rattle.run_record.specs.declared.error.ReplayError.{ReplayError}
use Rattle.run_record.specs.declared.error.ReplayError.TheVariants.{Memory}

-- The first at steps are a run of the setup, and with the next one they aren't: it isn't allowed, or the budget is spent.
pub record IsRefusedAt (setup : Opening) (steps : List Step) (at : ℕ) : Type 0 where
  pub before : List Step
  pub step : Step
  pub after : List Step
  pub parts : steps ≡ before ++ step ∷ after
  pub counted : at ≡ length before
  pub run : IsRun setup before
  pub no_run : IsRun setup (before ++ step ∷ []) → ⊥

-- this answer, or memory ran out
abbrev pub ReplaysOrMemory : {X : Type 0} → Result X ReplayError → Result X ReplayError → Type 0
ReplaysOrMemory result wanted = (result ≡ wanted) ⊎ (result ≡ Err Memory)
