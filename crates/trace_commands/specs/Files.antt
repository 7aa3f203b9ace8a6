-- What the files that the words name stand for, or why they are refused.
use Rattle.std.specs.Prelude.{◌≡◌, ℕ, ◌+◌, ◌<◌, ◌≤◌, List, Option, Some, None, Vec, Result, Ok, Err, take, length}
use Rattle.std.specs.declared.alloc.Global.{Global}
use Rattle.cell_base.specs.declared.steps.Step.{Step}
use Rattle.cell_io.specs.Files.{File}
use Rattle.cell_io.specs.Store.{Ledger, FailedAt}
use Rattle.cell_load.specs.Entries.{Entry}
use Rattle.cell_machine.specs.Opening.{Opening}
use Rattle.cell_machine.specs.Run.{Ran}
use Rattle.run_record.specs.Form.{Reading, BeginsWith, IsFault}
use Rattle.run_record.specs.Replayed.{IsRefusedAt}
use Rattle.cell_commands.specs.declared.fault.Fault.TheVariants.{ReadFault as InputReadFault, TooLong as InputTooLong, BadRecord, NotARun}
use Rattle.cell_commands.specs.declared.fault.FileId.{FileId}
use Rattle.cell_commands.specs.declared.fault.FileId.TheVariants.{Rec}
use Rattle.cell_commands.specs.Task.{Task, run_of}
use Rattle.cell_commands.specs.Course.{too_long, whole, given, Settles}
use Rattle.cell_commands.specs.Forms.{asm_task, plan_task, record_limit, run_task}
use Rattle.cell_commands.specs.Answer.{RefusesIn, AtFile, AtMachine}
use Rattle.trace_commands.specs.declared.fault.Fault.{Fault}
use Rattle.trace_commands.specs.declared.fault.Fault.TheVariants.{Usage, Input, TooShort, ReadFault, TooLong, Choices, WriteFault, Memory}
use Rattle.trace_commands.specs.declared.words.Ask.{Ask}
use Rattle.trace_commands.specs.declared.words.Ask.TheVariants.{Flows, Before}
use Rattle.trace_commands.specs.Words.{Word}
use Rattle.trace_commands.specs.Numbers.{HasNumbers, LacksNumbers}

-- the machine file and its sources stand for this setup
abbrev pub StandsFor : List File → Word → Opening → Type 0
StandsFor files machine setup = Settles files (run_task machine) (Ok (run_of setup))

-- the record file begins with the record of these steps
abbrev pub HasRecord : List File → Word → List Step → Type 0
HasRecord files name steps = (text : List ℕ) × (given files name record_limit ≡ whole text) × ((r : Reading) × (r.steps ≡ steps) × BeginsWith text r)

-- the choice file was read whole, and this holds of its text
abbrev pub ForChoices : List File → Word → (List ℕ → Type 0) → Type 0
ForChoices files name P = (text : List ℕ) × (given files name record_limit ≡ whole text) × P text

-- the choice file has these numbers
abbrev pub HasChoices : List File → Word → List ℕ → Type 0
HasChoices files name numbers = ForChoices files name (λ text. HasNumbers text numbers)

-- ---- refusals

abbrev pub MachineRefuses : List File → Word → Ledger → Ledger → Fault → Type 0
MachineRefuses files machine old new (Input fault) = RefusesIn files (run_task machine) old new fault
MachineRefuses files machine old new Memory = Unit {0}
MachineRefuses files machine old new other = ⊥

-- a source is refused as `cell asm` refuses it
abbrev pub SourceRefuses : List File → Word → Ledger → Ledger → Fault → Type 0
SourceRefuses files source old new (Input fault) = RefusesIn files (asm_task source) old new fault
SourceRefuses files source old new Memory = Unit {0}
SourceRefuses files source old new other = ⊥

-- a machine file is refused as `cell check` refuses it, whatever were done with what its lines say
abbrev pub PlanRefuses : List File → Word → Ledger → Ledger → Fault → Type 0
PlanRefuses files machine old new (Input fault) = (next : List Entry → Task) → RefusesIn files (plan_task machine next) old new fault
PlanRefuses files machine old new Memory = Unit {0}
PlanRefuses files machine old new other = ⊥

-- this line of the record file is the first that is outside the form of a record
abbrev pub IsBadLine : List File → Word → ℕ → Type 0
IsBadLine files name line = (text : List ℕ) × (given files name record_limit ≡ whole text) × IsFault text line

abbrev pub RecordRefuses : List File → Word → Ledger → Ledger → Fault → Type 0
RecordRefuses files name old new (Input (InputReadFault Rec)) = FailedAt name old new
RecordRefuses files name old new (Input (InputTooLong Rec)) = given files name record_limit ≡ too_long
RecordRefuses files name old new (Input (BadRecord line)) = IsBadLine files name line
RecordRefuses files name old new Memory = Unit {0}
RecordRefuses files name old new other = ⊥

abbrev pub ChoicesRefuse : List File → Word → Ledger → Ledger → Fault → Type 0
ChoicesRefuse files name old new ReadFault = FailedAt name old new
ChoicesRefuse files name old new TooLong = given files name record_limit ≡ too_long
ChoicesRefuse files name old new Choices = ForChoices files name LacksNumbers
ChoicesRefuse files name old new Memory = Unit {0}
ChoicesRefuse files name old new other = ⊥

-- how many steps of a record are asked for, where not all are
abbrev pub count_of : Ask → Option ℕ
count_of (Flows count) = Some count
count_of (Before place) = Some (place + 1)
count_of ask = None

abbrev pub counted : Option ℕ → List Step → List Step
counted None steps = steps
counted (Some count) steps = take count steps

-- there are as many steps as are asked for
abbrev pub AreEnough : Option ℕ → List Step → Type 0
AreEnough None steps = Unit {0}
AreEnough (Some count) steps = count ≤ length steps

-- of these steps, of which so many are asked for: there are fewer; or there are as many, and one of those isn't allowed, the first of that kind
abbrev pub StepsRefuse : Opening → List Step → Option ℕ → Fault → Type 0
StepsRefuse setup steps count (TooShort n) = (count ≡ Some n) × (length steps < n)
StepsRefuse setup steps count (Input (NotARun at)) = AreEnough count steps × IsRefusedAt setup (counted count steps) at
StepsRefuse setup steps count Memory = Unit {0}
StepsRefuse setup steps count other = ⊥

-- ---- refusals behind files that aren't refused

abbrev pub BehindMachine : List File → Word → Type 0 → Type 0
BehindMachine files machine P = (setup : Opening) × StandsFor files machine setup × P

-- behind a machine file and a record file
abbrev pub BehindRecord : List File → Word → Word → (Opening → List Step → Type 0) → Type 0
BehindRecord files machine record_file P = (setup : Opening) × (steps : List Step) × StandsFor files machine setup × HasRecord files record_file steps × P setup steps

-- behind a choice file
abbrev pub BehindChoices : List File → Word → Type 0 → Type 0
BehindChoices files choices P = (numbers : List ℕ) × HasChoices files choices numbers × P

-- ---- what was read

-- a machine at its start
abbrev pub MachineComes : List File → Word → Ledger → Ledger → Result Ran Fault → Type 0
MachineComes files machine old new (Ok m) = StandsFor files machine m.setup
MachineComes files machine old new (Err fault) = MachineRefuses files machine old new fault

abbrev pub RecordComes : List File → Word → Ledger → Ledger → Result Reading Fault → Type 0
RecordComes files name old new (Ok r) = HasRecord files name r.steps
RecordComes files name old new (Err fault) = RecordRefuses files name old new fault

abbrev pub ChoicesCome : List File → Word → Ledger → Ledger → Result (Vec ℕ Global) Fault → Type 0
ChoicesCome files name old new (Ok numbers) = HasChoices files name numbers.items
ChoicesCome files name old new (Err fault) = ChoicesRefuse files name old new fault

-- the text of the choice file, or why there is none
abbrev pub ChoiceTextComes : List File → Word → Ledger → Ledger → Result (Vec ℕ Global) Fault → Type 0
ChoiceTextComes files name old new (Ok text) = given files name record_limit ≡ whole text.items
ChoiceTextComes files name old new (Err Choices) = ⊥
ChoiceTextComes files name old new (Err fault) = ChoicesRefuse files name old new fault

-- ---- whatever the store tells

-- a reading of the machine file or of a source failed
abbrev pub FailsAtMachine : Word → Ledger → Ledger → Fault → Type 0
FailsAtMachine machine old new (Input (InputReadFault file)) = AtMachine machine file old new
FailsAtMachine machine old new ReadFault = ⊥
FailsAtMachine machine old new other = Unit {0}

-- the reading of this file failed, under this name
abbrev pub FailsAtFile : FileId → Word → Ledger → Ledger → Fault → Type 0
FailsAtFile file name old new (Input (InputReadFault failed)) = AtFile file name failed old new
FailsAtFile file name old new ReadFault = ⊥
FailsAtFile file name old new other = Unit {0}

-- the reading of the record file failed
abbrev pub FailsAtRecord : Word → Ledger → Ledger → Fault → Type 0
FailsAtRecord name old new (Input (InputReadFault Rec)) = FailedAt name old new
FailsAtRecord name old new (Input (InputReadFault file)) = ⊥
FailsAtRecord name old new ReadFault = ⊥
FailsAtRecord name old new other = Unit {0}

-- the reading of the choice file failed
abbrev pub FailsAtChoices : Word → Ledger → Ledger → Fault → Type 0
FailsAtChoices name old new ReadFault = FailedAt name old new
FailsAtChoices name old new (Input fault) = ⊥
FailsAtChoices name old new other = Unit {0}

-- it says that no reading failed
abbrev pub IsNoReading : Fault → Type 0
IsNoReading (Input (InputReadFault file)) = ⊥
IsNoReading ReadFault = ⊥
IsNoReading fault = Unit {0}

-- it is said of files, or for want of memory
abbrev pub IsOfFiles : Fault → Type 0
IsOfFiles Usage = ⊥
IsOfFiles WriteFault = ⊥
IsOfFiles fault = Unit {0}

-- what is read of the text of a record file
abbrev pub ReadsRecord : List ℕ → Result Reading Fault → Type 0
ReadsRecord text (Ok r) = BeginsWith text r
ReadsRecord text (Err (Input (BadRecord line))) = IsFault text line
ReadsRecord text (Err Memory) = Unit {0}
ReadsRecord text (Err other) = ⊥

-- what is read of the text of a choice file
abbrev pub ReadsNumbers : List ℕ → Result (Vec ℕ Global) Fault → Type 0
ReadsNumbers text (Ok numbers) = HasNumbers text numbers.items
ReadsNumbers text (Err Choices) = LacksNumbers text
ReadsNumbers text (Err Memory) = Unit {0}
ReadsNumbers text (Err other) = ⊥
