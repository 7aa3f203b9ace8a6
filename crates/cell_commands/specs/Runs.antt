-- A run that has ended, and what is printed of it.
use Rattle.std.specs.Prelude.{◌≡◌, ℕ, ◌≤◌, List, ◌++◌, length, Some}
use Rattle.cell_base.specs.declared.format.Format.TheVariants.{Two}
use Rattle.cell_base.specs.declared.steps.Step.{Step}
use Rattle.cell_base.specs.Records.{spelling, AreSteps}
use Rattle.cell_machine.specs.declared.status.End.{End}
use Rattle.cell_machine.specs.State.{State}
use Rattle.cell_machine.specs.Opening.{Opening, opening}
use Rattle.cell_machine.specs.Run.{Ran, IsRun, replay, IsEnd}
use Rattle.cell_machine.specs.Order.{IsInOrder}
use Rattle.cell_machine.specs.Lists.{ListsAreInOrder}
use Rattle.cell_machine.specs.Locks.{AreLocksKept}
use Rattle.cell_report.specs.States.{states_of}
use Rattle.cell_commands.specs.Checks.{TellsEnd}
use Rattle.cell_commands.specs.Forms.{record_limit}

-- One run of the written machine from the setup, within its budget, that has ended: its steps, the state that they lead to, and its end word.
pub record EndedRun (setup : Opening) : Type 0 where
  pub steps : List Step
  pub last : State
  pub end : End
  pub replayed : replay (opening setup) steps ≡ Some last
  pub within : length steps ≤ setup.budget
  pub ended : IsEnd last setup.budget (Some end)

abbrev pub ran : {setup : Opening} → EndedRun setup → Ran
ran {setup} run = record { setup = setup; steps = run.steps }

-- Its commands come in their order, its lists in theirs, and each PUTLLC stores exactly where its line is reserved.
pub record KeepsLaws (m : Ran) : Type 0 where
  pub order : IsInOrder m
  pub lists : ListsAreInOrder m
  pub locks : AreLocksKept m

-- The record of one such run, of format 2, which keeps the laws, within the bounds of a record, and then its last states; a record file can
-- be as long.
pub record PrintsRun (setup : Opening) (text : List ℕ) : Type 0 where
  pub run : EndedRun setup
  pub laws : KeepsLaws (ran run)
  pub recorded : AreSteps run.steps
  pub short : length text ≤ record_limit
  pub printed : text ≡ spelling Two run.steps ++ states_of run.last setup.shows (Some run.end)

-- The same of a run that may go on: its record, and then the states that it ends in, with its end word.
pub record PrintsSteps (m : Ran) (text : List ℕ) : Type 0 where
  pub run : IsRun m.setup m.steps
  pub laws : KeepsLaws m
  pub recorded : AreSteps m.steps
  pub short : length text ≤ record_limit
  pub states : List ℕ
  pub tells : TellsEnd m states
  pub printed : text ≡ spelling Two m.steps ++ states
