-- What is answered.
use Rattle.std.specs.Prelude.{◌≡◌, ◌⊎◌, false, ℕ, ◌≤◌, ◌<◌, List, [], ◌++◌, length, drop, codes, Vec, Option, Some, None}
use Rattle.std.specs.declared.alloc.Global.{Global}
use Rattle.cell_io.specs.Files.{File}
use Rattle.cell_io.specs.Store.{clean}
use Rattle.cell_commands.specs.Answer.{Sinks}
use Rattle.cell_commands.specs.Code.{code_of as cell_code}
use Rattle.cell_commands.specs.FaultTexts.{fault_text as cell_text}
use Rattle.cell_commands.specs.Promises.{Stores, Promises as CellPromises}
use Rattle.cell_commands.specs.Words.{Spoken as CellSpoken}
use Rattle.cell_commands.specs.declared.fault.Fault.{Fault as CellFault}
use Rattle.cell_commands.specs.declared.fault.Fault.TheVariants as cell_fault
use Rattle.cell_commands.specs.declared.fault.Status.{Status as CellStatus}
use Rattle.cell_commands.specs.declared.fault.Status.TheVariants as cell_status
use Rattle.hunt_command.specs.Answers.{Stores as HuntStores, Promises as HuntPromises}
use Rattle.hunt_command.specs.Code.{code_of as hunt_code}
use Rattle.hunt_command.specs.FaultTexts.{fault_text as hunt_text}
use Rattle.hunt_command.specs.Words.{Spoken as HuntSpoken}
use Rattle.hunt_command.specs.declared.fault.Fault.{Fault as HuntFault}
use Rattle.hunt_command.specs.declared.fault.Fault.TheVariants as hunt_fault
use Rattle.hunt_command.specs.declared.fault.Status.{Status as HuntStatus}
use Rattle.hunt_command.specs.declared.fault.Status.TheVariants as hunt_status
use Rattle.trace_commands.specs.Answers.{Promises as TracePromises}
use Rattle.trace_commands.specs.Code.{code_of as trace_code}
use Rattle.trace_commands.specs.FaultTexts.{fault_text as trace_text}
use Rattle.trace_commands.specs.Words.{Spoken as TraceSpoken}
use Rattle.trace_commands.specs.declared.fault.Fault.{Fault as TraceFault}
use Rattle.trace_commands.specs.declared.fault.Fault.TheVariants as trace_fault
use Rattle.trace_commands.specs.declared.fault.Status.{Status as TraceStatus}
use Rattle.trace_commands.specs.declared.fault.Status.TheVariants as trace_status
use Rattle.cell_library.specs.Asked.{Asked, by_cell, by_hunt, by_trace, asked_by}
use Rattle.cell_library.specs.Missing.{IsMissing}
use Rattle.cell_library.specs.Question.{IsQuestion, IsNoQuestion}
use Rattle.cell_library.specs.declared.answer.Answer.{Answer}
use Rattle.cell_library.specs.declared.answer.TheConstants.{OUT_OF_MEMORY}
use Rattle.cell_base.specs.Records.{line_feed}
use Rattle.cell_base.specs.Words.{lines_of}

-- ---- answers

-- want of memory is told where there is no text
abbrev pub text_in : Option (Vec ℕ Global) → List ℕ
text_in None = OUT_OF_MEMORY.now
text_in (Some text) = text.items

-- the text of an answer
abbrev pub text_of : Answer → List ℕ
text_of answer = text_in answer.text

-- memory was short
abbrev pub IsShort : Answer → Type 0
IsShort answer = (answer.text ≡ None) × (answer.code ≡ 7)

-- all that was put, with this status
abbrev pub Tells : Option (List ℕ) → ℕ → Answer → Type 0
Tells put code answer = (put ≡ Some (text_of answer)) × (answer.code ≡ code)

-- a line: the program's name, and what it tells
abbrev pub told_line : List ℕ → List ℕ → List ℕ
told_line program told = program ++ codes ": " ++ (told ++ line_feed)

-- a program refuses with this text and this status; or memory was short
abbrev pub Refuses : List ℕ → List ℕ → ℕ → Answer → Type 0
Refuses program told code answer = IsShort answer ⊎ ((text_of answer ≡ told_line program told) × (answer.code ≡ code))

-- ---- what a program answers

-- before a question nothing was put, and the sink has not failed
abbrev pub unused : Sinks
unused = record { taken = Some []; faults = 0 }

-- how a refusal of `cell` is told; the output fails only where memory is short
abbrev pub RefusesCell : CellFault → Answer → Type 0
RefusesCell cell_fault.Memory answer = IsShort answer
RefusesCell cell_fault.WriteFault answer = IsShort answer
RefusesCell fault answer = Refuses (codes "cell") (cell_text fault) (cell_code (cell_status.Refused fault)) answer

-- how a status is told, where this was put
abbrev pub TellsCell : CellStatus → Option (List ℕ) → Answer → Type 0
TellsCell (cell_status.Refused fault) put answer = RefusesCell fault answer
TellsCell status put answer = Tells put (cell_code status) answer

-- The answer is one that `cell_quiet` may give of these words, with a store of exactly these files and a sink that keeps its text. A file is said not
-- to be there only where it isn't.
pub record IsOfCell (files : List File) (spoken : CellSpoken) (answer : Answer) : Type 0 where
  pub status : CellStatus
  pub store : Stores
  pub sink : Sinks
  pub promised : CellPromises spoken (record { files = Some files; ledger = clean }) store unused sink status
  pub missing : IsMissing files store.ledger.failed
  pub told : TellsCell status sink.taken answer

-- the same of `hunt_quiet`, which nobody ends
abbrev pub RefusesHunt : HuntFault → Answer → Type 0
RefusesHunt hunt_fault.Memory answer = IsShort answer
RefusesHunt hunt_fault.WriteFault answer = IsShort answer
RefusesHunt fault answer = Refuses (codes "hunt") (hunt_text fault) (hunt_code (hunt_status.Refused fault)) answer

abbrev pub TellsHunt : HuntStatus → Option (List ℕ) → Answer → Type 0
TellsHunt (hunt_status.Refused fault) put answer = RefusesHunt fault answer
TellsHunt status put answer = Tells put (hunt_code status) answer

pub record IsOfHunt (files : List File) (spoken : HuntSpoken) (answer : Answer) : Type 0 where
  pub status : HuntStatus
  pub store : HuntStores
  pub sink : Sinks
  pub promised : HuntPromises spoken false (record { files = Some files; ledger = clean }) store unused sink status
  pub missing : IsMissing files store.ledger.failed
  pub told : TellsHunt status sink.taken answer

-- the same of `trace_form`
abbrev pub RefusesTrace : TraceFault → Answer → Type 0
RefusesTrace trace_fault.Memory answer = IsShort answer
RefusesTrace trace_fault.WriteFault answer = IsShort answer
RefusesTrace fault answer = Refuses (codes "run_trace") (trace_text fault) (trace_code (trace_status.Refused fault)) answer

abbrev pub TellsTrace : TraceStatus → Option (List ℕ) → Answer → Type 0
TellsTrace (trace_status.Refused fault) put answer = RefusesTrace fault answer
TellsTrace trace_status.Done put answer = Tells put 0 answer

pub record IsOfTrace (files : List File) (spoken : TraceSpoken) (answer : Answer) : Type 0 where
  pub status : TraceStatus
  pub store : Stores
  pub sink : Sinks
  pub promised : TracePromises spoken (record { files = Some files; ledger = clean }) store unused sink status
  pub missing : IsMissing files store.ledger.failed
  pub told : TellsTrace status sink.taken answer

-- ---- what is answered to a question

-- the answer of the program that is asked
abbrev pub IsOf : List File → Asked → Answer → Type 0
IsOf files (by_cell spoken) answer = IsOfCell files spoken answer
IsOf files (by_hunt spoken) answer = IsOfHunt files spoken answer
IsOf files (by_trace spoken) answer = IsOfTrace files spoken answer

-- The bytes stand for words and files, and the answer is that of the program that they ask; or they stand for none, and the status is 2. Memory may have
-- been short before.
abbrev pub IsAnswerTo : List ℕ → List ℕ → Answer → Type 0
IsAnswerTo words files answer =
    IsShort answer ⊎ ((given : List File) × IsQuestion words files given × IsOf given (asked_by (lines_of words)) answer)
    ⊎ (IsNoQuestion words files × Refuses (codes "cell") (cell_text cell_fault.Usage) 2 answer)

-- The text was put into the room, whose other bytes stay, and this is the status; or the room is too small for it, stays as it was, and the status is 4. How
-- many bytes the text has is told.
pub record Given (answer : Answer) (room room_after : List ℕ) (written status : ℕ) : Type 0 where
  pub size : written ≡ length (text_of answer)
  pub fits : written ≤ length room → (status ≡ answer.code) × (room_after ≡ text_of answer ++ drop written room)
  pub refused : length room < written → (status ≡ 4) × (room_after ≡ room)
