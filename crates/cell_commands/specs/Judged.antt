-- What `check` and `permute` say of the run in a record file.
use Rattle.std.specs.Prelude.{ℕ, ◌≡◌, List, Some, Ok}
use Rattle.cell_io.specs.Files.{File, file_named}
use Rattle.cell_machine.specs.Run.{Ran}
use Rattle.race_check.specs.declared.check.Verdict.TheVariants.{Accepted, Race as Racing}
use Rattle.cell_commands.specs.declared.fault.Fault.TheVariants.{NotSettled}
use Rattle.cell_commands.specs.declared.fault.Status.{Status}
use Rattle.cell_commands.specs.declared.fault.Status.TheVariants.{Done, Race, Refused}
use Rattle.cell_commands.specs.Task.{run_of}
use Rattle.cell_commands.specs.Course.{Settles}
use Rattle.cell_commands.specs.Forms.{run_task}
use Rattle.cell_commands.specs.Checks.{RecordsRun}
use Rattle.cell_commands.specs.Words.{Spoken, check, gen, permute}
use Rattle.cell_commands.specs.Verdicts.{IsAccepted, IsRaced}
use Rattle.cell_commands.specs.Summaries.{SummarizesRun}
use Rattle.cell_commands.specs.Reordered.{PrintsReordering, IsUnsettled}
use Rattle.cell_commands.specs.Answer.{Sinks}
use Rattle.cell_commands.specs.Output.{Took}

-- The machine file stands for the setup of this run, and the record file records the run.
pub record IsRunOf (files : List File) (machine record_file : List ℕ) (m : Ran) : Type 0 where
  pub setup : Settles files (run_task machine) (Ok (run_of m.setup))
  pub text : List ℕ
  pub there : file_named files record_file ≡ Some text
  pub records : RecordsRun m text

-- `check` is done only with a run that is accepted, and tells a race only where that is the least of the run; and the sink took the text that
-- says so. The same holds of `gen` and the run that it made, and of a race that `permute` tells. `permute` is done only with a run that is accepted
-- and settled, and the sink took the texts of its reordering; it says that a run isn't settled only of one that is accepted and isn't. No other
-- form tells a race or says so.
abbrev pub Judges : List File → Spoken → Sinks → Sinks → Status → Type 0
Judges files (check machine record_file) before after Done =
    (m : Ran) × IsRunOf files machine record_file m × ((text : List ℕ) × IsAccepted m text × Took before.taken after.taken text)
Judges files (check machine record_file) before after (Race i j) =
    (m : Ran) × IsRunOf files machine record_file m × ((text : List ℕ) × IsRaced m i j text × Took before.taken after.taken text)
Judges files (gen n) before after Done = (text : List ℕ) × SummarizesRun n Accepted text × Took before.taken after.taken text
Judges files (gen n) before after (Race i j) = (text : List ℕ) × SummarizesRun n (Racing i j) text × Took before.taken after.taken text
Judges files (permute machine record_file n) before after Done =
    (m : Ran) × IsRunOf files machine record_file m × ((text : List ℕ) × PrintsReordering m n text × Took before.taken after.taken text)
Judges files (permute machine record_file n) before after (Race i j) =
    (m : Ran) × IsRunOf files machine record_file m × ((text : List ℕ) × IsRaced m i j text × Took before.taken after.taken text)
Judges files (permute machine record_file n) before after (Refused NotSettled) = (m : Ran) × IsRunOf files machine record_file m × IsUnsettled m
Judges files spoken before after (Race i j) = ⊥
Judges files spoken before after (Refused NotSettled) = ⊥
Judges files spoken before after status = Unit {0}
