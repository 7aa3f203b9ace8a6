-- What is read of files.
use Rattle.std.proofs.Common.{◌≡◌, ℕ, List, [], Result, Ok, Err, refl, sym, subst, ◌⊎◌, inl, inr}
use Rattle.cell_io.specs.Files.{File}
use Rattle.cell_io.specs.Store.{Ledger}
use Rattle.cell_machine.specs.Opening.{Opening}
use Rattle.cell_machine.specs.Run.{Ran}
use Rattle.run_record.specs.Form.{Reading}
use Rattle.cell_commands.specs.declared.fault.Fault.{Fault as InputFault}
use Rattle.cell_commands.specs.declared.fault.Fault.TheVariants as input
use Rattle.cell_commands.specs.declared.fault.FileId.{FileId}
use Rattle.cell_commands.specs.declared.fault.FileId.TheVariants.{Rec}
use Rattle.cell_commands.specs.Task.{Task, Work, run_of, text_of, ready, read}
use Rattle.cell_commands.specs.Course.{Given, nothing, too_long, whole, given, WithGiven, Settles}
use Rattle.cell_commands.specs.Forms.{record_limit, run_task}
use Rattle.cell_commands.specs.Output.{LacksOrders}
use Rattle.cell_commands.specs.Answer.{Leads, RefusesIn, AtMachine, AtFile, FailsBy as InputFailsBy}
use Rattle.trace_commands.specs.declared.fault.Fault.{Fault}
use Rattle.trace_commands.specs.declared.fault.Fault.TheVariants.{Input, ReadFault, Memory}
use Rattle.trace_commands.specs.Words.{Word}
use Rattle.trace_commands.specs.Code.{told_as}
use Rattle.trace_commands.specs.Choices.{start}
use Rattle.trace_commands.specs.Files.{StandsFor, MachineRefuses, RecordRefuses, RecordComes, ReadsRecord, FailsAtMachine, FailsAtRecord}

-- what is done with the setup of a machine file
abbrev pub to_run : Opening → Task
to_run setup = ready (run_of setup)

-- what is done with the text of a record file
abbrev pub to_text : List ℕ → Task
to_text text = ready (text_of text)

-- ---- machine files

pub machine_refuses : (files : List File) (machine : Word) (old new : Ledger) (fault : InputFault) → RefusesIn files (run_task machine) old new fault → MachineRefuses files machine old new (told_as fault)
machine_refuses files machine old new input.Memory r = tt
machine_refuses files machine old new fault r = r

pub machine_cause : (machine : Word) (old new : Ledger) (fault : InputFault) → InputFailsBy {V = Opening} (AtMachine machine) old new (Err fault) → FailsAtMachine machine old new (told_as fault)
machine_cause machine old new input.Memory c = tt
machine_cause machine old new (input.ReadFault file) c = c
machine_cause machine old new fault c = tt

pub stands : (files : List File) (machine : Word) (setup : Opening) (m : Ran) → Leads files (run_task machine) (to_run setup) → m ≡ start setup → StandsFor files machine m.setup
stands files machine setup m leads is = subst (λ (n : Ran). StandsFor files machine n.setup) (sym is) (leads.settles (Ok (run_of setup)) refl)

-- ---- record files

whole_of : (g : Given) (bytes : List ℕ) → WithGiven Rec g (Ok (text_of bytes)) (λ b. Settles [] (to_text b) (Ok (text_of bytes))) → g ≡ whole bytes
whole_of nothing bytes h = absurd (cc)
whole_of too_long bytes h = absurd (cc)
whole_of (whole b) bytes h = cc

pub record_read : (files : List File) (name : Word) (bytes : List ℕ) → Leads files (read Rec name record_limit to_text) (to_text bytes) → given files name record_limit ≡ whole bytes
record_read files name bytes leads = whole_of (given files name record_limit) bytes (leads.settles (Ok (text_of bytes)) refl)

-- the file itself is refused
due_of : (g : Given) (fault : InputFault) → WithGiven Rec g (Err fault) (λ b. Settles [] (to_text b) (Err fault)) → (fault ≡ input.ReadFault Rec) ⊎ ((fault ≡ input.TooLong Rec) × (g ≡ too_long))
due_of nothing fault h = inl (cc)
due_of too_long fault h = inr (cc, refl)
due_of (whole b) fault h = absurd (cc)

by_due : (files : List File) (name : Word) (old new : Ledger) (fault : InputFault) → InputFailsBy {V = List ℕ} (AtFile Rec name) old new (Err fault)
    → (fault ≡ input.ReadFault Rec) ⊎ ((fault ≡ input.TooLong Rec) × (given files name record_limit ≡ too_long)) → RecordRefuses files name old new (told_as fault)
by_due files name old new fault c (inl is) =
    let k : InputFailsBy {V = List ℕ} (AtFile Rec name) old new (Err (input.ReadFault Rec)) = subst (λ (f : InputFault). InputFailsBy {V = List ℕ} (AtFile Rec name) old new (Err f)) is c in
    subst (λ (f : InputFault). RecordRefuses files name old new (told_as f)) (sym is) k.1
by_due files name old new fault c (inr is) = subst (λ (f : InputFault). RecordRefuses files name old new (told_as f)) (sym is.0) is.1

no_work : (g : Given) (work : Work) → WithGiven Rec g (Ok work) (λ b. Settles [] (to_text b) (Ok work)) → (b : List ℕ) × (work ≡ text_of b)
no_work nothing work h = absurd (cc)
no_work too_long work h = absurd (cc)
no_work (whole b) work h = (b, cc)

pub record_refuses : (files : List File) (name : Word) (old new : Ledger) (fault : InputFault) → RefusesIn files (read Rec name record_limit to_text) old new fault → InputFailsBy {V = List ℕ} (AtFile Rec name) old new (Err fault)
    → RecordRefuses files name old new (told_as fault)
record_refuses files name old new input.Memory r c = tt
record_refuses files name old new (input.ReadFault file) r c = subst (λ (f : FileId). RecordRefuses files name old new (Input (input.ReadFault f))) (sym c.0) c.1
record_refuses files name old new input.NotSettled r c = let w = no_work (given files name record_limit) r.0 r.1 in absurd (subst LacksOrders w.1 r.2)
record_refuses files name old new fault r c = by_due files name old new fault c (due_of (given files name record_limit) fault r)

pub record_cause : (name : Word) (old new : Ledger) (fault : InputFault) → InputFailsBy {V = List ℕ} (AtFile Rec name) old new (Err fault) → FailsAtRecord name old new (told_as fault)
record_cause name old new input.Memory c = tt
record_cause name old new (input.ReadFault file) c = subst (λ (f : FileId). FailsAtRecord name old new (Input (input.ReadFault f))) (sym c.0) c.1
record_cause name old new fault c = tt

pub record_comes : (files : List File) (name : Word) (old new : Ledger) (text : List ℕ) (result : Result Reading Fault) → given files name record_limit ≡ whole text → ReadsRecord text result → RecordComes files name old new result
record_comes files name old new text (Ok r) is h = (text, is, (r, refl, h))
record_comes files name old new text (Err (Input (input.BadRecord line))) is h = (text, is, h)
record_comes files name old new text (Err Memory) is h = tt
record_comes files name old new text (Err other) is h = absurd h

pub record_reads_on : (name : Word) (old new : Ledger) (text : List ℕ) (result : Result Reading Fault) → ReadsRecord text result → (fault : Fault) → result ≡ Err fault → FailsAtRecord name old new fault
record_reads_on name old new text result h (Input (input.ReadFault file)) is = absurd (subst (ReadsRecord text) is h)
record_reads_on name old new text result h ReadFault is = absurd (subst (ReadsRecord text) is h)
record_reads_on name old new text result h fault is = tt
