-- What the calls of the programs promise, told of an answer.
use Rattle.std.proofs.Common.{◌≡◌, ◌≢◌, ◌∙◌, ℕ, false, List, [], ◌++◌, codes, Vec, String, Option, Some, None, Result, Ok, Err, refl, sym, ap, subst, inl, inr}
use Rattle.std.specs.Prelude.{IfSome}
use Rattle.std.proofs.lemmas.Option.{same_Some}
use Rattle.std.specs.declared.alloc.Global.{Global}
use Rattle.cell_base.specs.Words.{lines_of}
use Rattle.cell_io.specs.Files.{File}
use Rattle.cell_io.specs.Memory.{Shelf, ledger_of}
use Rattle.cell_io.specs.Store.{Ledger, clean}
use Rattle.cell_commands.specs.Answer.{Sinks}
use Rattle.cell_commands.specs.Promises.{Stores, Promises as CellPromises}
use Rattle.cell_commands.specs.Words as cell
use Rattle.cell_commands.specs.Code.{code_of as cell_code}
use Rattle.cell_commands.specs.declared.fault.Fault.{Fault as CellFault}
use Rattle.cell_commands.specs.declared.fault.Fault.TheVariants as cell_fault
use Rattle.cell_commands.specs.declared.fault.Status.{Status as CellStatus}
use Rattle.cell_commands.specs.declared.fault.Status.TheVariants as cell_status
use Rattle.hunt_command.specs.Answers.{Stores as HuntStores, Promises as HuntPromises}
use Rattle.hunt_command.specs.Words.{Spoken as HuntSpoken}
use Rattle.hunt_command.specs.Code.{code_of as hunt_code}
use Rattle.hunt_command.specs.declared.fault.Fault.{Fault as HuntFault}
use Rattle.hunt_command.specs.declared.fault.Fault.TheVariants as hunt_fault
use Rattle.hunt_command.specs.declared.fault.Status.{Status as HuntStatus}
use Rattle.hunt_command.specs.declared.fault.Status.TheVariants as hunt_status
use Rattle.trace_commands.specs.Answers.{Promises as TracePromises}
use Rattle.trace_commands.specs.Words.{Spoken as TraceSpoken}
use Rattle.trace_commands.specs.Code.{code_of as trace_code}
use Rattle.trace_commands.specs.declared.fault.Fault.{Fault as TraceFault}
use Rattle.trace_commands.specs.declared.fault.Fault.TheVariants as trace_fault
use Rattle.trace_commands.specs.declared.fault.Status.{Status as TraceStatus}
use Rattle.trace_commands.specs.declared.fault.Status.TheVariants as trace_status
use Rattle.cell_library.specs.declared.answer.Answer.{Answer}
use Rattle.cell_library.specs.declared.bundle.BundleError.{BundleError}
use Rattle.cell_library.specs.declared.bundle.BundleError.TheVariants.{Form, Memory}
use Rattle.cell_commands.specs.FaultTexts.{fault_text as cell_text}
use Rattle.hunt_command.specs.FaultTexts.{fault_text as hunt_text}
use Rattle.trace_commands.specs.FaultTexts.{fault_text as trace_text}
use Rattle.cell_library.specs.Answers.{IsOf, IsOfCell, IsOfHunt, IsOfTrace, IsAnswerTo, IsShort, Refuses, RefusesCell, RefusesHunt, RefusesTrace, Tells, TellsCell, TellsHunt, TellsTrace, told_line, unused}
use Rattle.cell_library.specs.Asked.{Asked, by_cell, asked_by, without_runs}
use Rattle.cell_library.specs.Missing.{IsMissing}
use Rattle.cell_library.specs.Question.{IsQuestion}
use Rattle.cell_library.specs.Reading.{ReadsWords, ReadsFiles, ReadsBoth}

-- ---- answers

pub refused : (program told : List ℕ) (code : ℕ) (text : Vec ℕ Global) (answer : Answer) → answer ≡ record { text = Some text; code = code } → text.items ≡ told_line program told → Refuses program told code answer
refused program told code text answer is line = subst (Refuses program told code) (sym is) (inr (line, refl))

-- what its output is told by
pub refused_with : (program : List ℕ) (code : ℕ) (output : Option (List ℕ)) (text : Vec ℕ Global) (answer : Answer) → answer ≡ record { text = Some text; code = code } → IfSome output (λ told. text.items ≡ told_line program told) → IfSome output (λ told. Refuses program told code answer)
refused_with program code (Some told) text answer is line = refused program told code text answer is line
refused_with program code None text answer is line = tt

pub short_with : (program : List ℕ) (code : ℕ) (output : Option (List ℕ)) (answer : Answer) → IsShort answer → IfSome output (λ told. Refuses program told code answer)
short_with program code (Some told) answer short = inl short
short_with program code None answer short = tt

pub tells : (text put : Vec ℕ Global) (code : ℕ) (answer : Answer) → answer ≡ record { text = Some text; code = code } → text ≡ put → Tells (Some put.items) code answer
tells text put code answer is same = subst (Tells (Some put.items) code) (sym is) (ap (λ (v : Vec ℕ Global). Some v.items) (sym same), refl)

-- a fault that is none of memory
pub cell_refused : (fault : CellFault) (code : ℕ) (answer : Answer) → fault ≢ cell_fault.Memory → fault ≢ cell_fault.WriteFault → code ≡ cell_code (cell_status.Refused fault) → Refuses (codes "cell") (cell_text fault) code answer → RefusesCell fault answer
cell_refused cell_fault.Memory code answer memory write is h = absurd (memory refl)
cell_refused cell_fault.WriteFault code answer memory write is h = absurd (write refl)
cell_refused fault code answer memory write is h = subst (λ (c : ℕ). Refuses (codes "cell") (cell_text fault) c answer) is h

pub hunt_refused : (fault : HuntFault) (code : ℕ) (answer : Answer) → fault ≢ hunt_fault.Memory → fault ≢ hunt_fault.WriteFault → code ≡ hunt_code (hunt_status.Refused fault) → Refuses (codes "hunt") (hunt_text fault) code answer → RefusesHunt fault answer
hunt_refused hunt_fault.Memory code answer memory write is h = absurd (memory refl)
hunt_refused hunt_fault.WriteFault code answer memory write is h = absurd (write refl)
hunt_refused fault code answer memory write is h = subst (λ (c : ℕ). Refuses (codes "hunt") (hunt_text fault) c answer) is h

pub trace_refused : (fault : TraceFault) (code : ℕ) (answer : Answer) → fault ≢ trace_fault.Memory → fault ≢ trace_fault.WriteFault → code ≡ trace_code (trace_status.Refused fault) → Refuses (codes "run_trace") (trace_text fault) code answer → RefusesTrace fault answer
trace_refused trace_fault.Memory code answer memory write is h = absurd (memory refl)
trace_refused trace_fault.WriteFault code answer memory write is h = absurd (write refl)
trace_refused fault code answer memory write is h = subst (λ (c : ℕ). Refuses (codes "run_trace") (trace_text fault) c answer) is h

-- a status that is no refusal
pub cell_told : (status : CellStatus) (code : ℕ) (put : Option (List ℕ)) (answer : Answer) → ((fault : CellFault) → status ≡ cell_status.Refused fault → ⊥) → code ≡ cell_code status → Tells put code answer → TellsCell status put answer
cell_told (cell_status.Refused fault) code put answer none is h = absurd (none fault refl)
cell_told status code put answer none is h = subst (λ (c : ℕ). Tells put c answer) is h

pub hunt_told : (status : HuntStatus) (code : ℕ) (put : Option (List ℕ)) (answer : Answer) → ((fault : HuntFault) → status ≡ hunt_status.Refused fault → ⊥) → code ≡ hunt_code status → Tells put code answer → TellsHunt status put answer
hunt_told (hunt_status.Refused fault) code put answer none is h = absurd (none fault refl)
hunt_told status code put answer none is h = subst (λ (c : ℕ). Tells put c answer) is h

pub trace_told : (status : TraceStatus) (code : ℕ) (put : Option (List ℕ)) (answer : Answer) → status ≡ trace_status.Done → code ≡ trace_code status → Tells put code answer → TellsTrace status put answer
trace_told trace_status.Done code put answer done is h = subst (λ (c : ℕ). Tells put c answer) is h
trace_told (trace_status.Refused fault) code put answer done is h = absurd (cc)

-- ---- the store and the sink of a question

-- the files that a store tells
abbrev told_files : Shelf → Option (List File)
told_files s = Some s.files

missing_in : (files : List File) (before after : Shelf) → before.files ≡ files → told_files after ≡ told_files before → IsMissing after.files after.failed → IsMissing files after.failed
missing_in files before after first same h = subst (λ (fs : List File). IsMissing fs after.failed) (same_Some after.files before.files same ∙ first) h

module _ (files : List File) (before after : Shelf) (put : List ℕ) (faults : ℕ) (sink : Sinks) (answer : Answer) (first : before.files ≡ files) (none_yet : ledger_of before ≡ clean) (nothing : put ≡ []) (no_fault : faults ≡ 0) (missing : IsMissing after.files after.failed) where
  sinks : record { taken = Some put; faults = faults } ≡ unused
  sinks = ap (λ (xs : List ℕ). let s : Sinks = record { taken = Some xs; faults = faults } in s) nothing ∙ ap (λ (n : ℕ). let s : Sinks = record { taken = Some []; faults = n } in s) no_fault

  pub of_cell : (spoken : cell.Spoken) (status : CellStatus) → CellPromises spoken (record { files = Some before.files; ledger = ledger_of before }) (record { files = Some after.files; ledger = ledger_of after }) (record { taken = Some put; faults = faults }) sink status
      → TellsCell status sink.taken answer → IsOfCell files spoken answer
  of_cell spoken status p told =
      let after_all : Stores = record { files = Some after.files; ledger = ledger_of after } in
      let store : record { files = Some before.files; ledger = ledger_of before } ≡ record { files = Some files; ledger = clean }
      = ap (λ (fs : List File). let s : Stores = record { files = Some fs; ledger = ledger_of before } in s) first ∙ ap (λ (l : Ledger). let s : Stores = record { files = Some files; ledger = l } in s) none_yet in
      record {
        status = status;
        store = after_all;
        sink = sink;
        promised = subst (λ (s : Sinks). CellPromises spoken (record { files = Some files; ledger = clean }) after_all s sink status) sinks (subst (λ (s : Stores). CellPromises spoken s after_all (record { taken = Some put; faults = faults }) sink status) store p);
        missing = missing_in files before after first p.same missing;
        told = told;
      }

  pub of_hunt : (spoken : HuntSpoken) (status : HuntStatus) → HuntPromises spoken false (record { files = Some before.files; ledger = ledger_of before }) (record { files = Some after.files; ledger = ledger_of after }) (record { taken = Some put; faults = faults }) sink status
      → TellsHunt status sink.taken answer → IsOfHunt files spoken answer
  of_hunt spoken status p told =
      let after_all : HuntStores = record { files = Some after.files; ledger = ledger_of after } in
      let store : record { files = Some before.files; ledger = ledger_of before } ≡ record { files = Some files; ledger = clean }
      = ap (λ (fs : List File). let s : HuntStores = record { files = Some fs; ledger = ledger_of before } in s) first ∙ ap (λ (l : Ledger). let s : HuntStores = record { files = Some files; ledger = l } in s) none_yet in
      record {
        status = status;
        store = after_all;
        sink = sink;
        promised = subst (λ (s : Sinks). HuntPromises spoken false (record { files = Some files; ledger = clean }) after_all s sink status) sinks (subst (λ (s : HuntStores). HuntPromises spoken false s after_all (record { taken = Some put; faults = faults }) sink status) store p);
        missing = missing_in files before after first p.same missing;
        told = told;
      }

  pub of_trace : (spoken : TraceSpoken) (status : TraceStatus) → TracePromises spoken (record { files = Some before.files; ledger = ledger_of before }) (record { files = Some after.files; ledger = ledger_of after }) (record { taken = Some put; faults = faults }) sink status
      → TellsTrace status sink.taken answer → IsOfTrace files spoken answer
  of_trace spoken status p told =
      let after_all : Stores = record { files = Some after.files; ledger = ledger_of after } in
      let store : record { files = Some before.files; ledger = ledger_of before } ≡ record { files = Some files; ledger = clean }
      = ap (λ (fs : List File). let s : Stores = record { files = Some fs; ledger = ledger_of before } in s) first ∙ ap (λ (l : Ledger). let s : Stores = record { files = Some files; ledger = l } in s) none_yet in
      record {
        status = status;
        store = after_all;
        sink = sink;
        promised = subst (λ (s : Sinks). TracePromises spoken (record { files = Some files; ledger = clean }) after_all s sink status) sinks (subst (λ (s : Stores). TracePromises spoken s after_all (record { taken = Some put; faults = faults }) sink status) store p);
        missing = missing_in files before after first p.same missing;
        told = told;
      }

-- ---- which program is asked

-- words that ask for no run are those of `cell`
pub no_run : (spoken : cell.Spoken) → cell.AsksForNoRun spoken → without_runs spoken ≡ by_cell spoken
no_run (cell.run machine) quiet = absurd quiet
no_run (cell.gen n) quiet = absurd quiet
no_run spoken quiet = refl

pub asked_of : (files : List File) (asked other : Asked) (answer : Answer) → asked ≡ other → IsOf files asked answer → IsOf files other answer
asked_of files asked other answer is h = subst (λ (a : Asked). IsOf files a answer) is h

-- ---- words and files

pub words_fail : (words files : List ℕ) (error : BundleError) → ReadsWords words (Err error) → ReadsBoth words files (Err error)
words_fail words files Form lacks = inl lacks
words_fail words files Memory h = tt

pub files_fail : (words files : List ℕ) (error : BundleError) → ReadsFiles files (Err error) → ReadsBoth words files (Err error)
files_fail words files Form h = inr h
files_fail words files Memory h = tt

pub both_read : (words files : List ℕ) (said : Vec (String Global) Global) (given : Vec File Global) → ReadsWords words (Ok said) → ReadsFiles files (Ok given) → ReadsBoth words files (Ok (said, given))
both_read words files said given w f = (w.0, record { texts = w.1; bundled = f.0; different = f.1 })

pub to_question : (words files : List ℕ) (said : List (List ℕ)) (given : List File) (answer : Answer) → said ≡ lines_of words → IsQuestion words files given → IsOf given (asked_by said) answer → IsAnswerTo words files answer
to_question words files said given answer is question h = inr (inl (given, question, subst (λ (ws : List (List ℕ)). IsOf given (asked_by ws) answer) is h))
