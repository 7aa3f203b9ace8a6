-- What a record file is checked for.
use Rattle.std.specs.Prelude.{◌≡◌, ◌≢◌, ◌⊎◌, ℕ, List, [], ◌++◌, take, slice_get, Option, Some, Result, Ok, Err}
use Rattle.cell_base.specs.declared.format.Format.{Format}
use Rattle.cell_base.specs.declared.steps.Step.{Step}
use Rattle.cell_base.specs.Records.{spelling, AreSteps}
use Rattle.cell_machine.specs.declared.status.End.{End}
use Rattle.cell_machine.specs.State.{State}
use Rattle.cell_machine.specs.Opening.{Opening}
use Rattle.cell_machine.specs.Run.{Ran, IsRun, IsEnd, state_of}
use Rattle.cell_report.specs.States.{states_of}
use Rattle.run_record.specs.Form.{IsFault}
use Rattle.run_record.specs.Replayed.{IsRefusedAt}
use Rattle.cell_commands.specs.declared.fault.Fault.{Fault}
use Rattle.cell_commands.specs.declared.fault.Fault.TheVariants.{BadRecord, NotARun, StatesDiffer, Memory}

-- The text begins with the record of this run, of either format, and this stands behind it.
pub record BeginsWithRun (m : Ran) (text behind : List ℕ) : Type 0 where
  pub format : Format
  pub run : IsRun m.setup m.steps
  pub recorded : AreSteps m.steps
  pub parts : text ≡ spelling format m.steps ++ behind

-- The text has the states that a run ends in, with its end word.
pub record TellsEnd (m : Ran) (text : List ℕ) : Type 0 where
  pub last : State
  pub end : Option End
  pub there : state_of m ≡ Some last
  pub ended : IsEnd last m.setup.budget end
  pub told : text ≡ states_of last m.setup.shows end

-- The text is the record of this run, and behind it stand the states that it ends in, or nothing.
pub record RecordsRun (m : Ran) (text : List ℕ) : Type 0 where
  pub behind : List ℕ
  pub begins : BeginsWithRun m text behind
  pub states : (behind ≡ []) ⊎ TellsEnd m behind

-- The text begins with the record of steps that are no run of the setup: the one of this number is the first that is refused.
pub record IsNoRun (setup : Opening) (text : List ℕ) (at : ℕ) : Type 0 where
  pub format : Format
  pub steps : List Step
  pub behind : List ℕ
  pub recorded : AreSteps steps
  pub parts : text ≡ spelling format steps ++ behind
  pub refused : IsRefusedAt setup steps at

-- As many bytes are the same, and there the two texts differ: one of them may end there.
abbrev pub DifferAt : ℕ → List ℕ → List ℕ → Type 0
DifferAt at left right = (take at left ≡ take at right) × (slice_get left at ≢ slice_get right at)

-- The text begins with the record of this run, and something stands behind it. At this byte it first differs from that record with the
-- states that the run ends in.
pub record StatesDifferAt (m : Ran) (text : List ℕ) (at : ℕ) : Type 0 where
  pub behind : List ℕ
  pub states : List ℕ
  pub begins : BeginsWithRun m text behind
  pub some : behind ≢ []
  pub tells : TellsEnd m states
  pub differ : DifferAt at text (spelling begins.format m.steps ++ states)

-- a record file with this text is refused
abbrev pub RefusesRecord : Opening → List ℕ → Fault → Type 0
RefusesRecord setup text (BadRecord line) = IsFault text line
RefusesRecord setup text (NotARun at) = IsNoRun setup text at
RefusesRecord setup text (StatesDiffer at) = (steps : List Step) × StatesDifferAt (record { setup = setup; steps = steps }) text at
RefusesRecord setup text fault = ⊥

-- what a record file with this text is found to be: a run of the setup, or the first refusal
abbrev pub Finds : Opening → List ℕ → Result Ran Fault → Type 0
Finds setup text (Ok m) = (m.setup ≡ setup) × RecordsRun m text
Finds setup text (Err fault) = RefusesRecord setup text fault

-- a refusal is found, or memory ran out
abbrev pub RefusesOrMemory : Opening → List ℕ → Fault → Type 0
RefusesOrMemory setup text Memory = Unit {0}
RefusesOrMemory setup text fault = RefusesRecord setup text fault
