-- What `run` writes is read back by `check`.
use Rattle.std.specs.Prelude.{ℕ, ◌≡◌, List, Some, Ok}
use Rattle.cell_io.specs.Files.{File, file_named}
use Rattle.cell_machine.specs.Opening.{Opening}
use Rattle.cell_commands.specs.declared.fault.FileId.{FileId}
use Rattle.cell_commands.specs.declared.fault.Status.{Status}
use Rattle.cell_commands.specs.declared.fault.Status.TheVariants.{Done}
use Rattle.cell_commands.specs.Task.{Task, run_of, verdict_of}
use Rattle.cell_commands.specs.Course.{Settles, Reads}
use Rattle.cell_commands.specs.Forms.{run_task, check_task}
use Rattle.cell_commands.specs.Runs.{ran, PrintsRun}
use Rattle.cell_commands.specs.Words.{Spoken, run}
use Rattle.cell_commands.specs.Answer.{Sinks}
use Rattle.cell_commands.specs.Output.{Took}

-- later each file that the task reads is as it was, and the file of this name has this text
pub record IsKeptIn (files later : List File) (task : Task) (name text : List ℕ) : Type 0 where
  pub same : (file : FileId) (other : List ℕ) → Reads files task file other → file_named later other ≡ file_named files other
  pub kept : file_named later name ≡ Some text

-- The text prints a run of the setup that the files stand for; and wherever it is kept in a file, whatever the name, `check` of the machine
-- file and of that file is to give the verdict on this very run.
pub record IsReadBack (files : List File) (machine text : List ℕ) : Type 0 where
  pub setup : Opening
  pub own : Settles files (run_task machine) (Ok (run_of setup))
  pub prints : PrintsRun setup text
  pub checked : (later : List File) (record_file : List ℕ) → IsKeptIn files later (run_task machine) record_file text
      → Settles later (check_task machine record_file) (Ok (verdict_of (ran prints.run)))

-- what a run that is done added to the sink is read back
abbrev pub ReadsBack : List File → Spoken → Sinks → Sinks → Status → Type 0
ReadsBack files (run machine) before after Done = (text : List ℕ) × Took before.taken after.taken text × IsReadBack files machine text
ReadsBack files spoken before after status = Unit {0}
