-- The answers of the program, each with its cause.
use Rattle.std.specs.Prelude.{◌≡◌, ◌≤◌, ◌↔◌, ℕ, Bool, false, List, Option, None}
use Rattle.std.specs.Option.{ForSome}
use Rattle.cell_io.specs.Files.{File}
use Rattle.cell_io.specs.Store.{Ledger, NoneFell, Rose}
use Rattle.cell_machine.specs.Opening.{Opening}
use Rattle.cell_machine.specs.Run.{Ran}
use Rattle.cell_commands.specs.Answer.{Sinks}
use Rattle.cell_commands.specs.Output.{Took, TookPart}
use Rattle.cell_commands.specs.Runs.{PrintsSteps}
use Rattle.cell_hunt.specs.Runs.{IsRunOfSeed}
use Rattle.hunt_command.specs.declared.help.TheConstants.{HELP}
use Rattle.hunt_command.specs.declared.fault.Fault.{Fault}
use Rattle.hunt_command.specs.declared.fault.Fault.TheVariants.{Usage, WriteFault, Memory}
use Rattle.hunt_command.specs.declared.fault.Status.{Status}
use Rattle.hunt_command.specs.declared.fault.Status.TheVariants.{Clean, Found, Refused}
use Rattle.hunt_command.specs.Words.{is_on, Spoken, hunt, each, record_of, help, no_form}
use Rattle.hunt_command.specs.declared.input.Target.{Target}
use Rattle.hunt_command.specs.Files.{IsTarget, RefusesFiles, FailsBy}
use Rattle.hunt_command.specs.Hunts.{TellsHunt, TellsEach}

-- ---- what may be written

-- the text of run `run` of the seed, as `cell run` prints it
pub record TellsRun (setup : Opening) (run seed : ℕ) (status : Status) (text : List ℕ) : Type 0 where
  pub machine : Ran
  pub made : IsRunOfSeed setup seed run machine
  pub prints : PrintsSteps machine text
  pub done : status ≡ Clean

-- what words ask for, with the files, and whether somebody ended it: the text that is written, and the status that goes with it
abbrev pub Writes : List File → Spoken → Bool → Status → List ℕ → Type 0
Writes files (hunt a) stopped status text = (q : Target) × IsTarget files a.machine a.expect a.pass (is_on a.warn) q × TellsHunt q.setup q.asked a stopped status text
Writes files (each machine from runs seed) stopped status text = (q : Target) × IsTarget files machine None None false q × TellsEach q.setup from runs seed status text
Writes files (record_of machine run seed) stopped status text = (q : Target) × IsTarget files machine None None false q × TellsRun q.setup run seed status text
Writes files help stopped status text = (status ≡ Clean) × (text ≡ HELP.now)
Writes files no_form stopped status text = ⊥

-- ---- answers

-- the whole text of this status went out
abbrev pub Wrote : List File → Spoken → Bool → Status → Sinks → Sinks → Type 0
Wrote files spoken stopped status before after = (text : List ℕ) × Writes files spoken stopped status text × Took before.taken after.taken text

-- a part of the text of some status went out, and the sink failed
abbrev pub WrotePart : List File → Spoken → Bool → Sinks → Sinks → Type 0
WrotePart files spoken stopped before after =
    Rose before.faults after.faults × ((status : Status) × (text : List ℕ) × Writes files spoken stopped status text × TookPart before.taken after.taken text)

-- the files are refused that the words name
abbrev pub Refuses : List File → Spoken → Ledger → Ledger → Fault → Type 0
Refuses files (hunt a) old new fault = RefusesFiles files a.machine a.expect a.pass old new fault
Refuses files (each machine from runs seed) old new fault = RefusesFiles files machine None None old new fault
Refuses files (record_of machine run seed) old new fault = RefusesFiles files machine None None old new fault
Refuses files help old new fault = ⊥
Refuses files no_form old new fault = fault ≡ Usage

-- each answer with its cause
abbrev pub Answers : List File → Spoken → Bool → Ledger → Ledger → Sinks → Sinks → Status → Type 0
Answers files spoken stopped old new before after Clean = Wrote files spoken stopped Clean before after
Answers files spoken stopped old new before after Found = Wrote files spoken stopped Found before after
Answers files spoken stopped old new before after (Refused WriteFault) = WrotePart files spoken stopped before after
Answers files spoken stopped old new before after (Refused fault) = Refuses files spoken old new fault

-- whatever the store tells: where a reading failed
abbrev pub ReadFails : Spoken → Ledger → Ledger → Status → Type 0
ReadFails (hunt a) old new (Refused fault) = FailsBy a.machine a.expect a.pass old new fault
ReadFails (each machine from runs seed) old new (Refused fault) = FailsBy machine None None old new fault
ReadFails (record_of machine run seed) old new (Refused fault) = FailsBy machine None None old new fault
ReadFails spoken old new status = Unit {0}

-- nothing went out
abbrev pub IsQuiet : Sinks → Sinks → Status → Type 0
IsQuiet old new (Refused WriteFault) = Rose old.faults new.faults
IsQuiet old new (Refused fault) = new.taken ≡ old.taken
IsQuiet old new other = Unit {0}

-- what a store tells: its files, where it tells them, and its counts
pub record Stores : Type 0 where
  pub files : Option (List File)
  pub ledger : Ledger

-- of an answer to these words, with the store and the sink before and after, and whether somebody has ended the hunt
pub record Promises (spoken : Spoken) (stopped : Bool) (store store_after : Stores) (sink sink_after : Sinks) (status : Status) : Type 0 where
  -- The files stay as they were, and no count of faults falls.
  pub same : store_after.files ≡ store.files
  pub store_count : NoneFell store.ledger store_after.ledger
  pub sink_count : sink.faults ≤ sink_after.faults
  -- Where the store tells its files, each answer has its cause in them.
  pub told : ForSome store.files (λ files. Answers files spoken stopped store.ledger store_after.ledger sink sink_after status)
  -- Whatever it tells: a reading is said to fail only where it did, under the name of that file.
  pub read_fault : ReadFails spoken store.ledger store_after.ledger status
  -- A refusal leaves the sink as it was, but for WriteFault, which comes only where the sink's count rose.
  pub quiet : IsQuiet sink sink_after status
  pub usage : (status ≡ Refused Usage) ↔ (spoken ≡ no_form)

-- ---- parts of the program

-- a text was written, after which this is the status
abbrev pub EndsText : List ℕ → Status → Sinks → Sinks → Status → Type 0
EndsText text status before after (Refused WriteFault) = Rose before.faults after.faults × TookPart before.taken after.taken text
EndsText text status before after (Refused fault) = ⊥
EndsText text status before after result = (result ≡ status) × Took before.taken after.taken text

-- such a text was written, of this status, or a part of one, or nothing if out of memory
abbrev pub EndsBy : (Status → List ℕ → Type 0) → Sinks → Sinks → Status → Type 0
EndsBy Tells before after (Refused WriteFault) = Rose before.faults after.faults × ((status : Status) × (text : List ℕ) × Tells status text × TookPart before.taken after.taken text)
EndsBy Tells before after (Refused Memory) = after.taken ≡ before.taken
EndsBy Tells before after (Refused other) = ⊥
EndsBy Tells before after status = (text : List ℕ) × Tells status text × Took before.taken after.taken text
