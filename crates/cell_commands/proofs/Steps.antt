-- How a task is followed, step by step.
use Rattle.std.proofs.Common.{◌≡◌, ℕ, ◌+◌, List, [], ◌∷◌, ◌++◌, drop, Result, Ok, Err, refl, sym, ap, subst, inr}
use Rattle.std.specs.Prelude.{◌≢◌, IfOk, IfErr, OnErr}
use Rattle.cell_io.specs.Files.{File}
use Rattle.cell_io.specs.Store.{Ledger, FailedAt}
use Rattle.spu_asm.specs.Images.{Image}
use Rattle.spu_asm.specs.Assembling.{assembled}
use Rattle.spu_asm.specs.Outcomes.{Gives}
use Rattle.spu_asm.specs.declared.error.AsmError.{AsmError}
use Rattle.spu_asm.specs.declared.error.AsmError.TheVariants.{At, Memory as AsmMemory}
use Rattle.cell_load.specs.Sources.{Named}
use Rattle.cell_machine.specs.Opening.{Opening}
use Rattle.cell_machine.specs.Run.{Ran}
use Rattle.cell_load.specs.Entries.{Entry}
use Rattle.cell_load.specs.Order.{machine_at}
use Rattle.cell_load.specs.Loaded.{NoRow, LoadGives}
use Rattle.cell_load.specs.Plans.{PlanGives}
use Rattle.cell_load.specs.declared.plan.PlanError.{PlanError}
use Rattle.cell_load.specs.declared.plan.PlanError.TheVariants.{BadLine, Limit, Memory as PlanMemory}
use Rattle.cell_load.specs.declared.loading.LoadError.{LoadError}
use Rattle.cell_load.specs.declared.loading.LoadError.TheVariants.{NotInTable as NoRowError, Memory as LoadMemory}
use Rattle.cell_debug.specs.declared.line.Line.{Line}
use Rattle.cell_debug.specs.declared.error.ScriptError.{ScriptError}
use Rattle.cell_debug.specs.declared.error.ScriptError.TheVariants as script_error
use Rattle.cell_debug.specs.Scripts.{ScriptGives}
use Rattle.cell_debug.specs.Debug.{printed}
use Rattle.cell_commands.specs.declared.fault.Fault.{Fault}
use Rattle.cell_commands.specs.declared.fault.Fault.TheVariants.{Usage, ReadFault, WriteFault, TooLong, Machine, Source, NotInTable, Script, NotSettled, Memory}
use Rattle.cell_commands.specs.declared.fault.FileId.{FileId}
use Rattle.cell_commands.specs.declared.fault.FileId.TheVariants as file_id
use Rattle.cell_commands.specs.Causes.{plan_fault_of, source_fault_of, load_fault_of, script_fault_of, IsOfInput}
use Rattle.cell_commands.specs.declared.fault.Status.{Status}
use Rattle.cell_commands.specs.declared.fault.Status.TheVariants.{Done, Race, Refused}
use Rattle.cell_commands.specs.Task.{Task, Work, judge, read, ready, text_of}
use Rattle.cell_commands.specs.Checks.{Finds, RefusesOrMemory}
use Rattle.cell_commands.specs.Course.{whole, too_long, given, WithGiven, if_whole, Settles, Reads}
use Rattle.cell_commands.specs.Forms.{with_image, with_plan, with_setup, source_task, sources_task, by_script}
use Rattle.cell_commands.specs.Answer.{Leads, RefusesIn, Comes, FailsBy, AtFile, AtMachine, AtMachineOrRecord, AtMachineOrScript, Sinks, Ends, Answers, IsQuiet, ReadFails}

pub leads_here : (files : List File) (task rest : Task) → task ≡ rest → Leads files task rest
leads_here files task rest same = record {
  settles = λ result s. subst (λ t. Settles files t result) (sym same) s;
  reads = λ file name r. subst (λ t. Reads files t file name) (sym same) r;
}

pub leads_on : {files : List File} {task rest last : Task} → Leads files task rest → Leads files rest last → Leads files task last
leads_on a b = record {
  settles = λ result s. a.settles result (b.settles result s);
  reads = λ file name r. a.reads file name (b.reads file name r);
}

-- a file that was read whole
pub leads_read : (files : List File) (file : FileId) (name : List ℕ) (limit : ℕ) (next : List ℕ → Task) (bytes : List ℕ) → given files name limit ≡ whole bytes → Leads files (read file name limit next) (next bytes)
leads_read files file name limit next bytes is = record {
  settles = λ result s. subst (λ g. WithGiven file g result (λ b. Settles files (next b) result)) (sym is) s;
  reads = λ f n r. inr (subst (λ g. if_whole g (λ b. Reads files (next b) f n)) (sym is) r);
}

-- a file that is too long
pub refuses_long : (files : List File) (file : FileId) (name : List ℕ) (limit : ℕ) (next : List ℕ → Task) → given files name limit ≡ too_long → Settles files (read file name limit next) (Err (TooLong file))
refuses_long files file name limit next is = subst (λ g. WithGiven file g (Err (TooLong file)) (λ b. Settles files (next b) (Err (TooLong file)))) (sym is) refl

pub refuses_after : (files : List File) (task rest : Task) (old new : Ledger) (fault : Fault) → Leads files task rest → RefusesIn files rest old new fault → RefusesIn files task old new fault
refuses_after files task rest old new Memory l r = tt
refuses_after files task rest old new (ReadFault file) l r = (r.0, l.reads file r.0 r.1, r.2)
refuses_after files task rest old new NotSettled l r = (r.0, l.settles (Ok r.0) r.1, r.2)
refuses_after files task rest old new fault l r = l.settles (Err fault) r

pub comes_after : {V : Type 0} (files : List File) (task rest : Task) (next : V → Task) (old new : Ledger) (result : Result V Fault) → Leads files task rest → Comes files rest next old new result → Comes files task next old new result
comes_after files task rest next old new (Ok v) l r = leads_on l r
comes_after files task rest next old new (Err fault) l r = refuses_after files task rest old new fault l r

-- what was read assembles
pub leads_image : (files : List File) (file : FileId) (text : List ℕ) (image : Image) (next : Image → Task) → assembled text ≡ Ok image → Leads files (with_image file (assembled text) next) (next image)
leads_image files file text image next is = leads_here files _ _ (ap (λ r. with_image file r next) is)

pub refuses_image : (files : List File) (file : FileId) (text : List ℕ) (next : Image → Task) (old new : Ledger) (error : AsmError) → Gives {A = Image} (Err error) (assembled text) → RefusesIn files (with_image file (assembled text) next) old new (source_fault_of file error)
refuses_image files file text next old new AsmMemory is = tt
refuses_image files file text next old new (At line kind) is = subst (λ r. Settles files (with_image file r next) (Err (Source file line kind))) (sym is) refl

-- the next source is read
pub source_comes : {V : Type 0} (files : List File) (all : Task) (names : List Named) (so_far : List Image) (text : List ℕ) (number at : ℕ) (source : Named) (next : List Image → Task) (go_on : V → Task) (old now new : Ledger) (result : Result V Fault) → number ≡ at → drop at names ≡ source ∷ drop (at + 1) names → text ≡ source.name → now ≡ old → Leads files all (sources_task at (drop at names) so_far next) → Comes files (source_task number text (λ image. sources_task (at + 1) (drop (at + 1) names) (so_far ++ image ∷ []) next)) go_on now new result → Comes files all go_on old new result
source_comes {V} files all names so_far text number at source next go_on old now new result same_number first same_name kept leads comes =
    let go : Image → Task = λ image. sources_task (at + 1) (drop (at + 1) names) (so_far ++ image ∷ []) next in
    let here : Leads files all (source_task at source.name go) = subst (λ l. Leads files all (sources_task at l so_far next)) first leads in
    let a : Comes files (source_task at text go) go_on now new result = subst (λ n. Comes files (source_task n text go) go_on now new result) same_number comes in
    let b : Comes files (source_task at source.name go) go_on now new result = subst (λ t. Comes files (source_task at t go) go_on now new result) same_name a in
    let d : Comes files (source_task at source.name go) go_on old new result = subst (λ o. Comes files (source_task at source.name go) go_on o new result) kept b in
    comes_after files all (source_task at source.name go) go_on old new result here d

-- a machine file that was read in its form
pub leads_plan : (files : List File) (text : List ℕ) (entries : List Entry) (next : List Entry → Task) → machine_at text ≡ Ok entries → Leads files (with_plan (machine_at text) next) (next entries)
leads_plan files text entries next is = leads_here files _ _ (ap (λ r. with_plan r next) is)

pub refuses_plan : {X : Type 0} (view : X → List Entry) (files : List File) (text : List ℕ) (next : List Entry → Task) (old new : Ledger) (error : PlanError) → PlanGives {X = X} view (Err error) (machine_at text) → RefusesIn files (with_plan (machine_at text) next) old new (plan_fault_of error)
refuses_plan view files text next old new (BadLine line) is = subst (λ r. Settles files (with_plan r next) (Err (Machine line))) (sym is) refl
refuses_plan view files text next old new (Limit line) is = subst (λ r. Settles files (with_plan r next) (Err (Machine line))) (sym is) refl
refuses_plan view files text next old new PlanMemory is = tt

-- the setup that it stands for
pub leads_setup : (files : List File) (loading : Result Opening NoRow) (setup : Opening) (next : Opening → Task) → loading ≡ Ok setup → Leads files (with_setup loading next) (next setup)
leads_setup files loading setup next is = leads_here files _ _ (ap (λ r. with_setup r next) is)

pub refuses_setup : {X : Type 0} (view : X → Opening) (files : List File) (loading : Result Opening NoRow) (next : Opening → Task) (old new : Ledger) (error : LoadError) → LoadGives {X = X} view (Err error) loading → RefusesIn files (with_setup loading next) old new (load_fault_of error)
refuses_setup view files loading next old new LoadMemory is = tt
refuses_setup view files loading next old new (NoRowError spe address word) is = subst (λ r. Settles files (with_setup r next) (Err (NotInTable spe address word))) (sym is) refl

-- the store had failed no more when this part began than when the whole did
pub refuses_then : (files : List File) (task rest : Task) (old now new : Ledger) (fault : Fault) → Leads files task rest → now ≡ old → RefusesIn files rest now new fault → RefusesIn files task old new fault
refuses_then files task rest old now new fault l kept r =
    refuses_after files task rest old new fault l (subst (λ o. RefusesIn files rest o new fault) kept r)

pub comes_then : {V : Type 0} (files : List File) (task rest : Task) (next : V → Task) (old now new : Ledger) (result : Result V Fault) → Leads files task rest → now ≡ old → Comes files rest next now new result → Comes files task next old new result
comes_then files task rest next old now new result l kept comes =
    comes_after files task rest next old new result l (subst (λ o. Comes files rest next o new result) kept comes)

-- ---- a check

-- a reading that failed before the check is that of the machine file, of a source or of the record file
pub fails_machine : (machine record_file : List ℕ) (old new : Ledger) (fault : Fault) → FailsBy {V = ℕ} (AtMachine machine) old new (Err fault) → FailsBy {V = ℕ} (AtMachineOrRecord machine record_file) old new (Err fault)
fails_machine machine record_file old new (ReadFault file_id.Machine) is = is
fails_machine machine record_file old new (ReadFault (file_id.Source i)) is = is
fails_machine machine record_file old new (ReadFault file_id.Rec) is = absurd is
fails_machine machine record_file old new (ReadFault file_id.Script) is = absurd is
fails_machine machine record_file old new fault is = tt

pub fails_record : (machine record_file : List ℕ) (old now new : Ledger) (fault : Fault) → now ≡ old → FailsBy {V = ℕ} (AtFile file_id.Rec record_file) now new (Err fault) → FailsBy {V = ℕ} (AtMachineOrRecord machine record_file) old new (Err fault)
fails_record machine record_file old now new (ReadFault file) kept is =
    subst (λ f. AtMachineOrRecord machine record_file f old new) (sym is.0) (subst (λ o. FailedAt record_file o new) kept is.1)
fails_record machine record_file old now new fault kept is = tt

-- no check fails to read
fails-none : (cause : FileId → Ledger → Ledger → Type 0) (old new : Ledger) (setup : Opening) (text : List ℕ) (fault : Fault) → RefusesOrMemory setup text fault → FailsBy {V = Ran} cause old new (Err fault)
fails-none cause old new setup text (ReadFault file) is = absurd is
fails-none cause old new setup text fault is = tt

pub check_fails : {V : Type 0} (cause : FileId → Ledger → Ledger → Type 0) (old new : Ledger) (setup : Opening) (text : List ℕ) (result : Result V Fault) → IfErr result (RefusesOrMemory setup text) → FailsBy cause old new result
check_fails cause old new setup text (Ok m) refused = tt
check_fails cause old new setup text (Err fault) refused = fails-none cause old new setup text fault refused

-- what a check finds is what its task leads to
leads-judge : (files : List File) (setup : Opening) (text : List ℕ) (work : Ran → Work) (m : Ran) → Finds setup text (Ok m) → Leads files (judge setup text work) (ready (work m))
leads-judge files setup text work m finds = record {
  settles = λ result is. (Ok m, finds, is);
  reads = λ file name r. r;
}

refuses-judge : (files : List File) (setup : Opening) (text : List ℕ) (work : Ran → Work) (old new : Ledger) (fault : Fault) → RefusesOrMemory setup text fault → RefusesIn files (judge setup text work) old new fault
refuses-judge files setup text work old new Memory is = tt
refuses-judge files setup text work old new (ReadFault file) is = absurd is
refuses-judge files setup text work old new NotSettled is = absurd is
refuses-judge files setup text work old new fault is = (Err fault, is, refl)

pub check_comes : {V : Type 0} (ran : V → Ran) (files : List File) (task : Task) (setup : Opening) (text : List ℕ) (work : Ran → Work) (old new : Ledger) (result : Result V Fault) → Leads files task (judge setup text work)
    → IfOk result (λ v. Finds setup text (Ok (ran v))) → IfErr result (RefusesOrMemory setup text) → Comes files task (λ v. ready (work (ran v))) old new result
check_comes ran files task setup text work old new (Ok v) l run refused = leads_on l (leads-judge files setup text work (ran v) run)
check_comes ran files task setup text work old new (Err fault) l run refused = refuses_after files task (judge setup text work) old new fault l (refuses-judge files setup text work old new fault refused)

-- ---- a script

pub leads_script : (files : List File) (setup : Opening) (reading : Result (List Line) (ℕ × Unit {0})) (lines : List Line) → reading ≡ Ok lines → Leads files (by_script setup reading) (ready (text_of (printed (record { setup = setup; steps = [] }) lines)))
leads_script files setup reading lines is = leads_here files _ _ (ap (by_script setup) is)

pub refuses_script : {X : Type 0} (view : X → List Line) (files : List File) (setup : Opening) (reading : Result (List Line) (ℕ × Unit {0})) (old new : Ledger) (error : ScriptError) → ScriptGives {X = X} view (Err error) reading → RefusesIn files (by_script setup reading) old new (script_fault_of error)
refuses_script view files setup reading old new (script_error.BadLine line) is = subst (λ r. Settles files (by_script setup r) (Err (Script line))) (sym is) refl
refuses_script view files setup reading old new script_error.Memory is = tt

-- a reading that failed before the script ran is that of the machine file, of a source or of the script
pub fails_before : (machine script : List ℕ) (old new : Ledger) (fault : Fault) → FailsBy {V = ℕ} (AtMachine machine) old new (Err fault) → FailsBy {V = ℕ} (AtMachineOrScript machine script) old new (Err fault)
fails_before machine script old new (ReadFault file_id.Machine) is = is
fails_before machine script old new (ReadFault (file_id.Source i)) is = is
fails_before machine script old new (ReadFault file_id.Rec) is = absurd is
fails_before machine script old new (ReadFault file_id.Script) is = absurd is
fails_before machine script old new fault is = tt

pub fails_script : (machine script : List ℕ) (old now new : Ledger) (fault : Fault) → now ≡ old → FailsBy {V = ℕ} (AtFile file_id.Script script) now new (Err fault) → FailsBy {V = ℕ} (AtMachineOrScript machine script) old new (Err fault)
fails_script machine script old now new (ReadFault file) kept is =
    subst (λ f. AtMachineOrScript machine script f old new) (sym is.0) (subst (λ o. FailedAt script o new) kept is.1)
fails_script machine script old now new fault kept is = tt

-- what was printed is what the task leads to, unless memory was short
pub script_comes : {V : Type 0} (view : V → List ℕ) (files : List File) (task : Task) (text : List ℕ) (old new : Ledger) (result : Result V Fault) → Leads files task (ready (text_of text))
    → IfOk result (λ v. view v ≡ text) → OnErr result (result ≡ Err Memory) → Comes files task (λ v. ready (text_of (view v))) old new result
script_comes view files task text old new (Ok v) l is short = leads_on l (leads_here files _ _ (ap (λ t. ready (text_of t)) (sym is)))
script_comes view files task text old new (Err fault) l is short = let same : fault ≡ Memory = cc in subst (λ f. RefusesIn files task old new f) (sym same) tt

pub script_fails : {V : Type 0} (cause : FileId → Ledger → Ledger → Type 0) (old new : Ledger) (result : Result V Fault) → OnErr result (result ≡ Err Memory) → FailsBy cause old new result
script_fails cause old new (Ok v) short = tt
script_fails cause old new (Err fault) short = let same : fault ≡ Memory = cc in subst (λ f. FailsBy {V = ℕ} cause old new (Err f)) (sym same) tt

-- ---- how a task ends

-- it was refused before any work
pub answer_refused : (files : List File) (task : Task) (old new : Ledger) (before after : Sinks) (fault : Fault) → IsOfInput fault → RefusesIn files task old new fault → Answers files task old new before after (Refused fault)
answer_refused files task old new before after WriteFault input is = absurd input
answer_refused files task old new before after fault input is = is

-- the task comes to this work, which ended so
pub answer_ended : (files : List File) (task : Task) (work : Work) (old new : Ledger) (before after : Sinks) (status : Status) → Settles files task (Ok work) → Ends work before after status → Answers files task old new before after status
answer_ended files task work old new before after Done is e = (work, is, e)
answer_ended files task work old new before after (Race i j) is e = (work, is, e)
answer_ended files task work old new before after (Refused WriteFault) is e = (work, is, e)
answer_ended files task work old new before after (Refused Memory) is e = tt
answer_ended files task work old new before after (Refused NotSettled) is e = (work, is, e.0)
answer_ended files task work old new before after (Refused fault) is e = absurd e

pub answer_after : (files : List File) (task : Task) (work : Work) (old new : Ledger) (before after : Sinks) (status : Status) → Leads files task (ready work) → Ends work before after status → Answers files task old new before after status
answer_after files task work old new before after status l e = answer_ended files task work old new before after status (l.settles (Ok work) refl) e

-- work that ended writes nothing where it refuses, fails to read nothing, and isn't refused for its words
pub ended_quiet : (work : Work) (before after : Sinks) (status : Status) → Ends work before after status → IsQuiet before after status
ended_quiet work before after Done e = tt
ended_quiet work before after (Race i j) e = tt
ended_quiet work before after (Refused WriteFault) e = e.0
ended_quiet work before after (Refused Memory) e = e
ended_quiet work before after (Refused NotSettled) e = e.1
ended_quiet work before after (Refused fault) e = absurd e

pub ended_reads : (cause : FileId → Ledger → Ledger → Type 0) (old new : Ledger) (work : Work) (before after : Sinks) (status : Status) → Ends work before after status → ReadFails cause old new status
ended_reads cause old new work before after (Refused (ReadFault file)) e = absurd e
ended_reads cause old new work before after status e = tt

pub ended_usage : (work : Work) (before after : Sinks) (status : Status) → Ends work before after status → status ≢ Refused Usage
ended_usage work before after status e is = subst (Ends work before after) is e
