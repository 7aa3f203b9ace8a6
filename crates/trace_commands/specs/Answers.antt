-- The answers of the program, each with its cause.
use Rattle.std.specs.Prelude.{◌≡◌, ◌⊎◌, ◌≤◌, ◌↔◌, ℕ, List, Some, Vec, Result, Ok, Err, length}
use Rattle.std.specs.Option.{ForSome}
use Rattle.std.specs.declared.alloc.Global.{Global}
use Rattle.cell_base.specs.declared.steps.Step.{Step}
use Rattle.cell_io.specs.Files.{File}
use Rattle.cell_io.specs.Store.{Ledger, NoneFell, Rose}
use Rattle.cell_machine.specs.Opening.{Opening}
use Rattle.cell_machine.specs.Run.{Ran}
use Rattle.cell_commands.specs.declared.fault.FileId.TheVariants.{Machine, Source}
use Rattle.cell_commands.specs.Answer.{Sinks}
use Rattle.cell_commands.specs.Output.{Took, TookPart}
use Rattle.cell_commands.specs.Promises.{Stores}
use Rattle.cell_commands.specs.Runs.{PrintsSteps}
use Rattle.trace_commands.specs.declared.fault.Fault.{Fault}
use Rattle.trace_commands.specs.declared.fault.Fault.TheVariants.{Usage, WriteFault}
use Rattle.trace_commands.specs.declared.fault.Status.{Status}
use Rattle.trace_commands.specs.declared.fault.Status.TheVariants.{Done, Refused}
use Rattle.spu_asm.specs.Listings.{Listing}
use Rattle.trace_commands.specs.Words.{Spoken, alone, choose, asked, go, lined, planned, no_form}
use Rattle.trace_commands.specs.Choices.{start, with_choices, TakesTurns}
use Rattle.trace_commands.specs.Told.{first_run, Tells, TellsRecord, Goes}
use Rattle.trace_commands.specs.Files.{StandsFor, HasRecord, HasChoices, MachineRefuses, RecordRefuses, ChoicesRefuse, StepsRefuse, BehindMachine, BehindRecord, BehindChoices, SourceRefuses, PlanRefuses, count_of, FailsAtMachine, FailsAtRecord, FailsAtChoices, FailsAtFile, IsOfFiles}
use Rattle.trace_commands.specs.Listings.{HasListing, listing_text}
use Rattle.trace_commands.specs.Plans.{HasPlan}

-- ---- what may be written

-- the text that words ask for, with the files
abbrev pub Writes : List File → Spoken → List ℕ → Type 0
Writes files (alone machine) text = (m : Ran) × StandsFor files machine m.setup × TakesTurns m × PrintsSteps m text
Writes files (choose machine choices) text =
    (setup : Opening) × (numbers : List ℕ) × StandsFor files machine setup × HasChoices files choices numbers × TellsRecord (with_choices (start setup) numbers) text
Writes files (asked machine record_file ask) text =
    (setup : Opening) × (steps : List Step) × StandsFor files machine setup × HasRecord files record_file steps × Tells setup steps ask text
Writes files (go machine record_file count choices) text =
    (setup : Opening) × (steps : List Step) × (numbers : List ℕ) × StandsFor files machine setup × HasRecord files record_file steps × HasChoices files choices numbers
    × (count ≤ length steps) × Goes numbers (first_run setup steps count) text
Writes files (lined source) text = (l : Listing) × HasListing files source l × (text ≡ listing_text l)
Writes files (planned machine) text = HasPlan files machine text
Writes files no_form text = ⊥

-- why nothing is written: a file is refused only behind those before it, and the steps behind all
abbrev pub Refuses : List File → Spoken → Ledger → Ledger → Fault → Type 0
Refuses files (alone machine) old new fault = MachineRefuses files machine old new fault
Refuses files (choose machine choices) old new fault = MachineRefuses files machine old new fault ⊎ BehindMachine files machine (ChoicesRefuse files choices old new fault)
Refuses files (asked machine record_file ask) old new fault =
    MachineRefuses files machine old new fault ⊎ BehindMachine files machine (RecordRefuses files record_file old new fault)
    ⊎ BehindRecord files machine record_file (λ setup steps. StepsRefuse setup steps (count_of ask) fault)
Refuses files (go machine record_file count choices) old new fault =
    MachineRefuses files machine old new fault ⊎ BehindMachine files machine (RecordRefuses files record_file old new fault)
    ⊎ BehindRecord files machine record_file (λ setup steps. ChoicesRefuse files choices old new fault)
    ⊎ BehindRecord files machine record_file (λ setup steps. BehindChoices files choices (StepsRefuse setup steps (Some count) fault))
Refuses files (lined source) old new fault = SourceRefuses files source old new fault
Refuses files (planned machine) old new fault = PlanRefuses files machine old new fault
Refuses files no_form old new fault = fault ≡ Usage

-- the text of a form, or why there is none
abbrev pub Comes : List File → Spoken → Ledger → Ledger → Result (Vec ℕ Global) Fault → Type 0
Comes files spoken old new (Ok text) = Writes files spoken text.items
Comes files spoken old new (Err fault) = Refuses files spoken old new fault

-- whatever the store tells: a reading is said to fail only where it did, under the name of that file
abbrev pub FailsBy : Spoken → Ledger → Ledger → Fault → Type 0
FailsBy (alone machine) old new fault = FailsAtMachine machine old new fault
FailsBy (choose machine choices) old new fault = FailsAtMachine machine old new fault ⊎ FailsAtChoices choices old new fault
FailsBy (asked machine record_file ask) old new fault = FailsAtMachine machine old new fault ⊎ FailsAtRecord record_file old new fault
FailsBy (go machine record_file count choices) old new fault =
    FailsAtMachine machine old new fault ⊎ FailsAtRecord record_file old new fault ⊎ FailsAtChoices choices old new fault
FailsBy (lined source) old new fault = FailsAtFile (Source 0) source old new fault
FailsBy (planned machine) old new fault = FailsAtFile Machine machine old new fault
FailsBy no_form old new fault = fault ≡ Usage

-- ---- answers

-- each answer with its cause
abbrev pub Answers : List File → Spoken → Ledger → Ledger → Sinks → Sinks → Status → Type 0
Answers files spoken old new before after Done = (text : List ℕ) × Writes files spoken text × Took before.taken after.taken text
Answers files spoken old new before after (Refused WriteFault) = (text : List ℕ) × Writes files spoken text × TookPart before.taken after.taken text
Answers files spoken old new before after (Refused fault) = Refuses files spoken old new fault

abbrev pub ReadFails : Spoken → Ledger → Ledger → Status → Type 0
ReadFails spoken old new Done = Unit {0}
ReadFails spoken old new (Refused WriteFault) = Unit {0}
ReadFails spoken old new (Refused fault) = FailsBy spoken old new fault

-- a refusal leaves the sink as it was, its bytes and its count of faults, but for WriteFault, which comes only where the count rose
abbrev pub IsQuiet : Sinks → Sinks → Status → Type 0
IsQuiet old new Done = Unit {0}
IsQuiet old new (Refused WriteFault) = Rose old.faults new.faults
IsQuiet old new (Refused fault) = new ≡ old

-- of an answer to these words, with the store and the sink before and after
pub record Promises (spoken : Spoken) (store store_after : Stores) (sink sink_after : Sinks) (status : Status) : Type 0 where
  -- The files stay as they were, and no count of faults falls.
  pub same : store_after.files ≡ store.files
  pub store_count : NoneFell store.ledger store_after.ledger
  pub sink_count : sink.faults ≤ sink_after.faults
  -- Where the store tells its files, each answer has its cause in them.
  pub told : ForSome store.files (λ files. Answers files spoken store.ledger store_after.ledger sink sink_after status)
  -- Whatever it tells: a reading is said to fail only where it did, under the name of that file.
  pub read_fault : ReadFails spoken store.ledger store_after.ledger status
  -- A refusal leaves the sink as it was, but for WriteFault, which comes only where the sink's count rose.
  pub quiet : IsQuiet sink sink_after status
  pub usage : (status ≡ Refused Usage) ↔ (spoken ≡ no_form)

-- ---- parts of the program

-- the whole text went out, or a part of it where the sink failed
abbrev pub Ends : List ℕ → Sinks → Sinks → Status → Type 0
Ends text before after Done = Took before.taken after.taken text
Ends text before after (Refused WriteFault) = Rose before.faults after.faults × TookPart before.taken after.taken text
Ends text before after (Refused fault) = ⊥

-- a refusal is Usage exactly where the words are no form, and is none of writing
abbrev pub TellsUsage : Spoken → Fault → Type 0
TellsUsage no_form fault = fault ≡ Usage
TellsUsage spoken fault = IsOfFiles fault
