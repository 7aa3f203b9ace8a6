-- The answers of the program, each with its cause.
use Rattle.std.specs.Prelude.{ℕ, ◌≡◌, List, Option, Result, Ok, Err}
use Rattle.cell_io.specs.Files.{File}
use Rattle.cell_io.specs.Store.{Rose, Ledger, FailedAt}
use Rattle.cell_commands.specs.declared.fault.Fault.{Fault}
use Rattle.cell_commands.specs.declared.fault.Fault.TheVariants.{ReadFault, WriteFault, NotSettled, Memory}
use Rattle.cell_commands.specs.declared.fault.FileId.{FileId}
use Rattle.cell_commands.specs.declared.fault.FileId.TheVariants.{Machine, Source, Rec, Script}
use Rattle.cell_commands.specs.declared.fault.Status.{Status}
use Rattle.cell_commands.specs.declared.fault.Status.TheVariants.{Done, Race, Refused}
use Rattle.cell_commands.specs.Task.{Task, Work}
use Rattle.cell_commands.specs.Course.{Settles, Reads}
use Rattle.cell_machine.specs.Run.{Ran}
use Rattle.cell_commands.specs.Runs.{PrintsSteps}
use Rattle.cell_commands.specs.Output.{Took, TookPart, Writes, LacksOrders}

-- the rest of the task settles what the whole does, and what it reads the whole reads
pub record Leads (files : List File) (task rest : Task) : Type 0 where
  pub settles : (result : Result Work Fault) → Settles files rest result → Settles files task result
  pub reads : (file : FileId) (name : List ℕ) → Reads files rest file name → Reads files task file name

-- the files have a run to reorder that has no race and isn't settled
abbrev pub HasUnsettled : List File → Task → Type 0
HasUnsettled files task = (work : Work) × Settles files task (Ok work) × LacksOrders work

-- why this is refused, whatever is read and written: the files settle the refusal, or they have a run that isn't settled
abbrev pub IsDue : List File → Task → Fault → Type 0
IsDue files task NotSettled = HasUnsettled files task
IsDue files task fault = Settles files task (Err fault)

-- a part of the program refuses with its cause
abbrev pub RefusesIn : List File → Task → Ledger → Ledger → Fault → Type 0
RefusesIn files task old new Memory = Unit {0}
RefusesIn files task old new (ReadFault file) = (name : List ℕ) × Reads files task file name × FailedAt name old new
RefusesIn files task old new fault = IsDue files task fault

-- a part of the program came to a value with which the task goes on, or it refused
abbrev pub Comes : {V : Type 0} → List File → Task → (V → Task) → Ledger → Ledger → Result V Fault → Type 0
Comes files task next old new (Ok v) = Leads files task (next v)
Comes files task next old new (Err fault) = RefusesIn files task old new fault

-- whatever the store tells: where a reading failed, this holds of the file
abbrev pub FailsBy : {V : Type 0} → (FileId → Ledger → Ledger → Type 0) → Ledger → Ledger → Result V Fault → Type 0
FailsBy cause old new (Err (ReadFault file)) = cause file old new
FailsBy cause old new other = Unit {0}

-- only this file, under this name
abbrev pub AtFile : FileId → List ℕ → FileId → Ledger → Ledger → Type 0
AtFile file name f old new = (f ≡ file) × FailedAt name old new

-- only a source
abbrev pub AtSources : FileId → Ledger → Ledger → Type 0
AtSources (Source i) old new = Rose old.faults new.faults
AtSources other old new = ⊥

-- the machine file, under this name, or one of its sources
abbrev pub AtMachine : List ℕ → FileId → Ledger → Ledger → Type 0
AtMachine machine Machine old new = FailedAt machine old new
AtMachine machine (Source i) old new = Rose old.faults new.faults
AtMachine machine Rec old new = ⊥
AtMachine machine Script old new = ⊥

-- the machine file, one of its sources, or the record file, under this name
abbrev pub AtMachineOrRecord : List ℕ → List ℕ → FileId → Ledger → Ledger → Type 0
AtMachineOrRecord machine record_file Rec old new = FailedAt record_file old new
AtMachineOrRecord machine record_file file old new = AtMachine machine file old new

-- the machine file, one of its sources, or the script, under this name
abbrev pub AtMachineOrScript : List ℕ → List ℕ → FileId → Ledger → Ledger → Type 0
AtMachineOrScript machine script Script old new = FailedAt script old new
AtMachineOrScript machine script file old new = AtMachine machine file old new

-- the sink before and after
pub record Sinks : Type 0 where
  pub taken : Option (List ℕ)
  pub faults : ℕ

-- the whole text of this end went out
abbrev pub Wrote : Work → Status → Option (List ℕ) → Option (List ℕ) → Type 0
Wrote work status old new = (text : List ℕ) × Writes work status text × Took old new text

-- a part of the text of some end went out
abbrev pub WrotePart : Work → Option (List ℕ) → Option (List ℕ) → Type 0
WrotePart work old new = (status : Status) × (text : List ℕ) × Writes work status text × TookPart old new text

-- the record and the states of a run went out, or a part of them, or nothing
abbrev pub WroteSteps : Ran → Sinks → Sinks → Status → Type 0
WroteSteps m old new Done = (text : List ℕ) × PrintsSteps m text × Took old.taken new.taken text
WroteSteps m old new (Refused WriteFault) = Rose old.faults new.faults × ((text : List ℕ) × PrintsSteps m text × TookPart old.taken new.taken text)
WroteSteps m old new (Refused Memory) = new ≡ old
WroteSteps m old new other = ⊥

-- how work ends: its text went out, or a part of it, or nothing
abbrev pub Ends : Work → Sinks → Sinks → Status → Type 0
Ends work old new Done = Wrote work Done old.taken new.taken
Ends work old new (Race first second) = Wrote work (Race first second) old.taken new.taken
Ends work old new (Refused WriteFault) = Rose old.faults new.faults × WrotePart work old.taken new.taken
Ends work old new (Refused Memory) = new ≡ old
Ends work old new (Refused NotSettled) = LacksOrders work × (new ≡ old)
Ends work old new (Refused fault) = ⊥

-- the files settle work, and this is how it ended
abbrev pub Ended : List File → Task → Sinks → Sinks → Status → Type 0
Ended files task old new status = (work : Work) × Settles files task (Ok work) × Ends work old new status

-- the answers, each with its cause
abbrev pub Answers : List File → Task → Ledger → Ledger → Sinks → Sinks → Status → Type 0
Answers files task old new before after Done = Ended files task before after Done
Answers files task old new before after (Race first second) = Ended files task before after (Race first second)
Answers files task old new before after (Refused WriteFault) = Ended files task before after (Refused WriteFault)
Answers files task old new before after (Refused fault) = RefusesIn files task old new fault

-- a refusal leaves the sink as it was, its bytes and its count of faults, but for WriteFault, which comes only where the count rose
abbrev pub IsQuiet : Sinks → Sinks → Status → Type 0
IsQuiet old new (Refused WriteFault) = Rose old.faults new.faults
IsQuiet old new (Refused fault) = new ≡ old
IsQuiet old new other = Unit {0}

-- where a reading failed
abbrev pub ReadFails : (FileId → Ledger → Ledger → Type 0) → Ledger → Ledger → Status → Type 0
ReadFails cause old new (Refused (ReadFault file)) = cause file old new
ReadFails cause old new other = Unit {0}

-- no file that the task comes to is the latest that failed
abbrev pub NoneFailed : List File → Task → Ledger → Ledger → Type 0
NoneFailed files task old new = (file : FileId) (name : List ℕ) → Reads files task file name → FailedAt name old new → ⊥

-- this answer, or that memory was short
abbrev pub IsOrMemory : Fault → Status → Type 0
IsOrMemory fault (Refused Memory) = Unit {0}
IsOrMemory fault status = status ≡ Refused fault

abbrev pub IsExact : List File → Task → Ledger → Ledger → Status → Type 0
IsExact files task old new status =
    (fault : Fault) → IsDue files task fault → NoneFailed files task old new → IsOrMemory fault status

-- the work was done, or its run isn't settled, or memory was short
abbrev pub IsFinished : Status → Type 0
IsFinished Done = Unit {0}
IsFinished (Race first second) = Unit {0}
IsFinished (Refused NotSettled) = Unit {0}
IsFinished (Refused Memory) = Unit {0}
IsFinished (Refused fault) = ⊥

abbrev pub IsComplete : List File → Task → Ledger → Ledger → Sinks → Sinks → Status → Type 0
IsComplete files task old new before after status =
    (work : Work) → Settles files task (Ok work) → ¬ (Rose before.faults after.faults) → NoneFailed files task old new → IsFinished status
