-- What the program promises of each answer.
use Rattle.std.specs.Prelude.{ℕ, ◌≡◌, ◌≤◌, ◌↔◌, List, Option}
use Rattle.std.specs.Option.{ForSome}
use Rattle.cell_io.specs.Files.{File}
use Rattle.cell_io.specs.Store.{Ledger, NoneFell}
use Rattle.cell_commands.specs.declared.fault.Fault.TheVariants.{Usage}
use Rattle.cell_commands.specs.declared.fault.Status.{Status}
use Rattle.cell_commands.specs.declared.fault.Status.TheVariants.{Refused}
use Rattle.cell_commands.specs.Words.{Spoken, gen, no_form, task_of, FailsIn}
use Rattle.cell_commands.specs.Course.{SettlesOne}
use Rattle.cell_commands.specs.Answer.{Sinks, Answers, IsComplete, IsExact, IsQuiet, ReadFails}
use Rattle.cell_commands.specs.Judged.{Judges}
use Rattle.cell_commands.specs.ReadBack.{ReadsBack}

-- what a store tells: its files, where it tells them, and its count of faults
pub record Stores : Type 0 where
  pub files : Option (List File)
  pub ledger : Ledger

-- What an answer to these words is, with these files. The first field has the others as its consequences: `of_cause` in proofs/Answered takes it
-- alone, and gives them.
pub record IsAnswer (files : List File) (spoken : Spoken) (old new : Ledger) (before after : Sinks) (status : Status) : Type 0 where
  -- It has its cause in the files.
  pub answer : Answers files (task_of spoken) old new before after status
  -- Where they refuse, or have a run to reorder that isn't settled, and no reading failed, that refusal is told.
  pub exactly : IsExact files (task_of spoken) old new status
  -- Where they don't refuse, and neither a reading nor the sink failed, the work is done, or its run isn't settled.
  pub complete : IsComplete files (task_of spoken) old new before after status
  -- A check is done only where no two steps of the recorded run race, and then every reordering of them agrees. A race is told only where that is
  -- the least one. A run is reordered only where it has no race and is settled, and only of one without a race it is said that it isn't settled.
  pub judges : Judges files spoken before after status
  -- What a run that is done wrote is read back: `check` of it is to give the verdict on that run.
  pub read_back : ReadsBack files spoken before after status

-- of an answer to these words, with the store and the sink before and after
pub record Promises (spoken : Spoken) (store store_after : Stores) (sink sink_after : Sinks) (status : Status) : Type 0 where
  -- The files stay as they were, and no count of faults falls.
  pub same : store_after.files ≡ store.files
  pub store_count : NoneFell store.ledger store_after.ledger
  pub sink_count : sink.faults ≤ sink_after.faults
  -- Any words have any files settle one thing, and want of memory is nothing that files settle.
  pub settles : (words : Spoken) (files : List File) → SettlesOne files (task_of words)
  -- Where the store tells its files, the answer is one with these.
  pub told : ForSome store.files (λ files. IsAnswer files spoken store.ledger store_after.ledger sink sink_after status)
  -- `gen` reads no file: whatever the store tells, its answer is one with any files.
  pub number : (n : ℕ) → spoken ≡ gen n → (files : List File) → IsAnswer files spoken store.ledger store_after.ledger sink sink_after status
  -- Whatever it tells: a reading is said to fail only where it did, under the name of that file.
  pub read_fault : ReadFails (FailsIn spoken) store.ledger store_after.ledger status
  -- A refusal leaves the sink as it was, but for WriteFault, which comes only where the sink's count rose.
  pub quiet : IsQuiet sink sink_after status
  pub usage : (status ≡ Refused Usage) ↔ (spoken ≡ no_form)
