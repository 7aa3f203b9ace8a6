-- What `run` writes is read back by `check`.
use Rattle.std.proofs.Common.{◌≡◌, ℕ, ◌≤◌, false, cond, List, length, Some, Result, Ok, refl, sym, ap, subst, ◌∙◌, arith, inl, inr}
use Rattle.std.specs.Prelude.{nat_lt, is_some}
use Rattle.std.proofs.lemmas.Bool.Decides.{nat_tests}
use Rattle.cell_io.specs.Files.{File, file_named}
use Rattle.cell_io.specs.Store.{Ledger}
use Rattle.cell_base.specs.declared.format.Format.TheVariants.{Two}
use Rattle.cell_machine.specs.Opening.{Opening}
use Rattle.cell_report.specs.States.{states_of}
use Rattle.cell_commands.specs.declared.fault.Fault.{Fault}
use Rattle.cell_commands.specs.declared.fault.FileId.{FileId}
use Rattle.cell_commands.specs.declared.fault.FileId.TheVariants.{Rec}
use Rattle.cell_commands.specs.declared.fault.Status.{Status}
use Rattle.cell_commands.specs.declared.fault.Status.TheVariants.{Done, Race, Refused}
use Rattle.cell_commands.specs.Task.{Task, Work, refuse, ready, judge, read, run_of, verdict_of}
use Rattle.cell_commands.specs.Checks.{RecordsRun}
use Rattle.cell_commands.specs.Course.{Given, nothing, too_long, whole, within, given, WithGiven, if_whole, Settles, Reads}
use Rattle.cell_commands.specs.Forms.{record_limit, run_task, check_task}
use Rattle.cell_commands.specs.Runs.{ran, PrintsRun}
use Rattle.cell_commands.specs.Words.{Spoken, run, check, asm, gen, debug, permute, no_form, task_of}
use Rattle.cell_commands.specs.Answer.{Sinks, Ended, Ends, Answers}
use Rattle.cell_commands.specs.Output.{Took}
use Rattle.cell_commands.specs.ReadBack.{IsKeptIn, IsReadBack, ReadsBack}
use Rattle.cell_commands.proofs.Judged.{run_work}
use Rattle.cell_commands.proofs.Machines.{machine-on}

-- ---- the record file alone

-- the text of a run records it
run-records : (setup : Opening) (text : List ℕ) (p : PrintsRun setup text) → RecordsRun (ran p.run) text
run-records setup text p =
    let r = p.run in
    record {
      behind = states_of r.last setup.shows (Some r.end);
      begins = record { format = Two; run = (ap is_some r.replayed, r.within); recorded = p.recorded; parts = p.printed };
      states = inr (record { last = r.last; end = Some r.end; there = r.replayed; ended = r.ended; told = refl });
    }

-- ---- files that are as they were

module _ (files later : List File) where
  -- each file that the task reads is as it was
  abbrev AreSame : Task → Type 0
  AreSame task = (file : FileId) (other : List ℕ) → Reads files task file other → file_named later other ≡ file_named files other

  by-same : (file : FileId) (next : List ℕ → Task) (result : Result Work Fault) (g : Given) → ((bytes : List ℕ) → g ≡ whole bytes → Settles files (next bytes) result → Settles later (next bytes) result)
      → WithGiven file g result (λ bytes. Settles files (next bytes) result) → WithGiven file g result (λ bytes. Settles later (next bytes) result)
  by-same file next result nothing h s = s
  by-same file next result too_long h s = s
  by-same file next result (whole bytes) h s = h bytes refl s

  -- so they settle what they settled
  same-settled : (task : Task) (result : Result Work Fault) → AreSame task → Settles files task result → Settles later task result
  same-settled (refuse fault) result same s = s
  same-settled (ready work) result same s = s
  same-settled (judge setup text work) result same s = s
  same-settled (read file name limit next) result same s =
      let now : given later name limit ≡ given files name limit = ap (within limit) (same file name (inl (refl, refl))) in
      subst (λ g. WithGiven file g result (λ bytes. Settles later (next bytes) result)) (sym now)
      (by-same file next result (given files name limit) (λ bytes is. same-settled (next bytes) result (λ f n r. same f n (inr (subst (λ g. if_whole g (λ b. Reads files (next b) f n)) (sym is) r)))) s)

-- ---- both

given-whole : (files : List File) (name text : List ℕ) (limit : ℕ) → file_named files name ≡ Some text → length text ≤ limit → given files name limit ≡ whole text
given-whole files name text limit is fits =
    let short : nat_lt limit (length text) ≡ false = grind (arith, nat_tests, fits) in
    ap (within limit) is ∙ ap (λ b. cond b too_long (whole text)) short

same-run : (S T : Opening) → ◌≡◌ {A = Result Work Fault} (Ok (run_of S)) (Ok (run_of T)) → S ≡ T
same-run S T e = cc

kept-read : (files later : List File) (machine record_file text : List ℕ) (setup : Opening) → Settles files (run_task machine) (Ok (run_of setup)) → (p : PrintsRun setup text)
    → IsKeptIn files later (run_task machine) record_file text → Settles later (check_task machine record_file) (Ok (verdict_of (ran p.run)))
kept-read files later machine record_file text setup is p k =
    let verdict : Result Work Fault = Ok (verdict_of (ran p.run)) in
    let next : Opening → Task = λ S. read Rec record_file record_limit (λ t. judge S t verdict_of) in
    let on = machine-on later (run_of setup) (λ S. ready (run_of S)) next machine (same-settled files later (run_task machine) (Ok (run_of setup)) k.same is) in
    let here : Settles later (judge setup text verdict_of) verdict = (Ok (ran p.run), (refl, run-records setup text p), refl) in
    let own : Settles later (next setup) verdict = subst (λ g. WithGiven Rec g verdict (λ t. Settles later (judge setup t verdict_of) verdict)) (sym (given-whole later record_file text record_limit k.kept p.short)) here in
    on.2 verdict (subst (λ S. Settles later (next S) verdict) (same-run setup on.0 on.1) own)

reads-back : (files : List File) (machine text : List ℕ) (setup : Opening) → Settles files (run_task machine) (Ok (run_of setup)) → PrintsRun setup text → IsReadBack files machine text
reads-back files machine text setup is p = record {
  setup = setup;
  own = is;
  prints = p;
  checked = λ later record_file k. kept-read files later machine record_file text setup is p k;
}

-- a run's task comes to no other work than a run
ran-back : (files : List File) (machine : List ℕ) (before after : Sinks) → Ended files (run_task machine) before after Done → (text : List ℕ) × Took before.taken after.taken text × IsReadBack files machine text
ran-back files machine before after e =
    let found = run_work files e.0 machine e.1 in
    let ends : Ends (run_of found.0) before after Done = subst (λ w. Ends w before after Done) found.1 e.2 in
    (ends.0, ends.2, reads-back files machine ends.0 found.0 (subst (λ w. Settles files (run_task machine) (Ok w)) found.1 e.1) ends.1)

pub read_back : (files : List File) (spoken : Spoken) (old new : Ledger) (before after : Sinks) (status : Status) → Answers files (task_of spoken) old new before after status → ReadsBack files spoken before after status
read_back files (run machine) old new before after Done a = ran-back files machine before after a
read_back files (run machine) old new before after (Race first second) a = tt
read_back files (run machine) old new before after (Refused fault) a = tt
read_back files (check machine record_file) old new before after status a = tt
read_back files (asm source) old new before after status a = tt
read_back files (gen n) old new before after status a = tt
read_back files (debug machine script) old new before after status a = tt
read_back files (permute machine record_file n) old new before after status a = tt
read_back files no_form old new before after status a = tt
