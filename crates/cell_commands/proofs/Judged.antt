-- What `check` and `permute` say of the run in a record file follows from their tasks.
use Rattle.std.proofs.Common.{◌≡◌, ℕ, Bool, true, false, cond, List, [], length, Option, Some, None, Result, Ok, Err, refl, ap, subst}
use Rattle.std.specs.Prelude.{nat_lt}
use Rattle.cell_io.specs.Files.{File, file_named}
use Rattle.cell_io.specs.Store.{Ledger}
use Rattle.spu_asm.specs.Images.{Image}
use Rattle.spu_asm.specs.Assembling.{assembled}
use Rattle.spu_asm.specs.declared.error.AsmError.{AsmError}
use Rattle.spu_asm.specs.declared.error.AsmError.TheVariants.{At, Memory as AsmMemory}
use Rattle.cell_machine.specs.Opening.{Opening}
use Rattle.cell_machine.specs.Run.{Ran}
use Rattle.cell_debug.specs.declared.line.Line.{Line}
use Rattle.cell_debug.specs.Form.{script_at}
use Rattle.cell_debug.specs.Debug.{printed}
use Rattle.cell_report.specs.Images.{image_lines}
use Rattle.cell_commands.specs.declared.fault.Fault.{Fault}
use Rattle.cell_commands.specs.declared.fault.Fault.TheVariants.{TooLarge, NotSettled}
use Rattle.cell_commands.specs.declared.fault.FileId.{FileId}
use Rattle.cell_commands.specs.declared.fault.FileId.TheVariants.{Source, Rec, Script}
use Rattle.cell_commands.specs.declared.fault.Status.{Status}
use Rattle.cell_commands.specs.declared.fault.Status.TheVariants.{Done, Race, Refused}
use Rattle.cell_commands.specs.Task.{Work, refuse, ready, judge, read, run_of, text_of, verdict_of, gen_of, reordering_of}
use Rattle.cell_commands.specs.Checks.{RecordsRun, Finds}
use Rattle.cell_commands.specs.Course.{too_long, whole, within, by_run, WithGiven, Settles}
use Rattle.cell_commands.specs.Forms.{text_limit, record_limit, with_image, run_task, recorded_task, asm_task, gen_task, debug_task, by_script}
use Rattle.cell_commands.specs.Words.{Spoken, run, check, asm, gen, debug, permute, no_form, task_of}
use Rattle.cell_commands.specs.Output.{LacksOrders}
use Rattle.cell_commands.specs.Answer.{Sinks, HasUnsettled, Wrote, Ends, Ended, Answers}
use Rattle.cell_commands.specs.Judged.{IsRunOf, Judges}
use Rattle.cell_commands.proofs.Machines.{machine-on}

-- ---- the work that a task comes to

same-work : (v w : Work) → ◌≡◌ {A = Result Work Fault} (Ok v) (Ok w) → v ≡ w
same-work v w e = cc

module _ (files : List File) (work : Work) where
  whole-on : (b : Bool) (file : FileId) (bytes : List ℕ) (GoOn : List ℕ → Type 0) → WithGiven file (cond b too_long (whole bytes)) (Ok work) GoOn → GoOn bytes
  whole-on true file bytes GoOn e = absurd cc
  whole-on false file bytes GoOn e = e

  -- a file that was read on the way to work is there
  file-on : (file : FileId) (o : Option (List ℕ)) (limit : ℕ) (GoOn : List ℕ → Type 0) → WithGiven file (within limit o) (Ok work) GoOn → (bytes : List ℕ) × (o ≡ Some bytes) × GoOn bytes
  file-on file None limit GoOn e = absurd cc
  file-on file (Some bytes) limit GoOn e = (bytes, refl, whole-on (nat_lt limit (length bytes)) file bytes GoOn e)

  found-on : (setup : Opening) (text : List ℕ) (of : Ran → Work) (found : Result Ran Fault) → Finds setup text found → ◌≡◌ {A = Result Work Fault} (Ok work) (by_run of found) → (m : Ran) × (work ≡ of m) × (m.setup ≡ setup) × RecordsRun m text
  found-on setup text of (Err fault) f e = absurd cc
  found-on setup text of (Ok m) f e = (m, same-work work (of m) e, f.0, f.1)

  -- work with a record file is work with the run in it
  recorded-work : (machine record_file : List ℕ) (of : Ran → Work) → Settles files (recorded_task machine record_file of) (Ok work) → (m : Ran) × (work ≡ of m) × IsRunOf files machine record_file m
  recorded-work machine record_file of e =
      let on = machine-on files work (λ S. read Rec record_file record_limit (λ t. judge S t of)) (λ S. ready (run_of S)) machine e in
      let there = file-on Rec (file_named files record_file) record_limit (λ t. Settles files (judge on.0 t of) (Ok work)) on.1 in
      let found = found-on on.0 there.0 of there.2.0 there.2.1 there.2.2 in (
        found.0,
        found.1,
        record {
          setup = on.2 (Ok (run_of found.0.setup)) (ap (λ (S : Opening). Ok (run_of S)) found.2);
          text = there.0;
          there = there.1;
          records = found.3;
        },
      )

  -- a run's task comes to no other work than a run, and a source's to no other than a text
  pub run_work : (machine : List ℕ) → Settles files (run_task machine) (Ok work) → (setup : Opening) × (work ≡ run_of setup)
  run_work machine e =
      let on = machine-on files work (λ S. ready (run_of S)) (λ S. ready (run_of S)) machine e in
      (on.0, same-work work (run_of on.0) on.1)

  image-work : (file : FileId) (r : Result Image AsmError) → Settles files (with_image file r (λ image. ready (text_of (image_lines image)))) (Ok work) → (text : List ℕ) × (work ≡ text_of text)
  image-work file (Err (At line kind)) e = absurd cc
  image-work file (Err AsmMemory) e = absurd cc
  image-work file (Ok image) e = (image_lines image, same-work work (text_of (image_lines image)) e)

  asm-work : (source : List ℕ) → Settles files (asm_task source) (Ok work) → (text : List ℕ) × (work ≡ text_of text)
  asm-work source e =
      let there = file-on (Source 0) (file_named files source) text_limit (λ text. Settles files (with_image (Source 0) (assembled text) (λ image. ready (text_of (image_lines image)))) (Ok work)) e in
      image-work (Source 0) (assembled there.0) there.2

  script-work : (setup : Opening) (r : Result (List Line) (ℕ × Unit {0})) → Settles files (by_script setup r) (Ok work) → (text : List ℕ) × (work ≡ text_of text)
  script-work setup (Err fault) e = absurd cc
  script-work setup (Ok lines) e = let text = printed (record { setup = setup; steps = [] }) lines in (text, same-work work (text_of text) e)

  debug-work : (machine script : List ℕ) → Settles files (debug_task machine script) (Ok work) → (text : List ℕ) × (work ≡ text_of text)
  debug-work machine script e =
      let on = machine-on files work (λ S. read Script script text_limit (λ t. by_script S (script_at S t))) (λ S. ready (run_of S)) machine e in
      let there = file-on Script (file_named files script) text_limit (λ t. Settles files (by_script on.0 (script_at on.0 t)) (Ok work)) on.1 in
      script-work on.0 (script_at on.0 there.0) there.2

  gen-work : (n : ℕ) (b : Bool) → Settles files (cond b (refuse (TooLarge n)) (ready (gen_of n))) (Ok work) → work ≡ gen_of n
  gen-work n true e = absurd cc
  gen-work n false e = same-work work (gen_of n) e

-- ---- what is said

no_race_of_run : (setup : Opening) (i j : ℕ) (old new : Option (List ℕ)) → Wrote (run_of setup) (Race i j) old new → ⊥
no_race_of_run setup i j old new w = w.1

no_race_of_text : (t : List ℕ) (i j : ℕ) (old new : Option (List ℕ)) → Wrote (text_of t) (Race i j) old new → ⊥
no_race_of_text t i j old new w = w.1

module _ (files : List File) (before after : Sinks) where
  -- how work with the run of a record file ended
  recorded-ended : (machine record_file : List ℕ) (of : Ran → Work) (status : Status) → Ended files (recorded_task machine record_file of) before after status → (m : Ran) × IsRunOf files machine record_file m × Ends (of m) before after status
  recorded-ended machine record_file of status e =
      let found = recorded-work files e.0 machine record_file of e.1 in
      (found.0, found.2, subst (λ w. Ends w before after status) found.1 e.2)

  recorded-unsettled : (machine record_file : List ℕ) (of : Ran → Work) → HasUnsettled files (recorded_task machine record_file of) → (m : Ran) × IsRunOf files machine record_file m × LacksOrders (of m)
  recorded-unsettled machine record_file of is =
      let found = recorded-work files is.0 machine record_file of is.1 in
      (found.0, found.2, subst LacksOrders found.1 is.2)

  run-raced : (machine : List ℕ) (i j : ℕ) → Ended files (run_task machine) before after (Race i j) → ⊥
  run-raced machine i j e =
      let found = run_work files e.0 machine e.1 in
      no_race_of_run found.0 i j before.taken after.taken (subst (λ w. Ends w before after (Race i j)) found.1 e.2)

  asm-raced : (source : List ℕ) (i j : ℕ) → Ended files (asm_task source) before after (Race i j) → ⊥
  asm-raced source i j e =
      let found = asm-work files e.0 source e.1 in
      no_race_of_text found.0 i j before.taken after.taken (subst (λ w. Ends w before after (Race i j)) found.1 e.2)

  debug-raced : (machine script : List ℕ) (i j : ℕ) → Ended files (debug_task machine script) before after (Race i j) → ⊥
  debug-raced machine script i j e =
      let found = debug-work files e.0 machine script e.1 in
      no_race_of_text found.0 i j before.taken after.taken (subst (λ w. Ends w before after (Race i j)) found.1 e.2)

  -- what `gen` comes to
  gen-ended : (n : ℕ) (status : Status) → Ended files (gen_task n) before after status → Ends (gen_of n) before after status
  gen-ended n status e = subst (λ w. Ends w before after status) (gen-work files e.0 n (nat_lt 64 n) e.1) e.2

  -- of no other work it is said that its run isn't settled
  run-settled : (machine : List ℕ) → HasUnsettled files (run_task machine) → ⊥
  run-settled machine is = let found = run_work files is.0 machine is.1 in subst LacksOrders found.1 is.2

  asm-settled : (source : List ℕ) → HasUnsettled files (asm_task source) → ⊥
  asm-settled source is = let found = asm-work files is.0 source is.1 in subst LacksOrders found.1 is.2

  debug-settled : (machine script : List ℕ) → HasUnsettled files (debug_task machine script) → ⊥
  debug-settled machine script is = let found = debug-work files is.0 machine script is.1 in subst LacksOrders found.1 is.2

  gen-settled : (n : ℕ) → HasUnsettled files (gen_task n) → ⊥
  gen-settled n is = subst LacksOrders (gen-work files is.0 n (nat_lt 64 n) is.1) is.2

  none-settled : HasUnsettled files (task_of no_form) → ⊥
  none-settled is = let e = is.1 in cc

pub judges : (files : List File) (spoken : Spoken) (old new : Ledger) (before after : Sinks) (status : Status) → Answers files (task_of spoken) old new before after status → Judges files spoken before after status
judges files (check machine record_file) old new before after Done a = recorded-ended files before after machine record_file verdict_of Done a
judges files (check machine record_file) old new before after (Race i j) a = recorded-ended files before after machine record_file verdict_of (Race i j) a
judges files (check machine record_file) old new before after (Refused NotSettled) a = (recorded-unsettled files before after machine record_file verdict_of a).2
judges files (check machine record_file) old new before after (Refused fault) a = tt
judges files (permute machine record_file n) old new before after Done a = recorded-ended files before after machine record_file (λ m. reordering_of m n) Done a
judges files (permute machine record_file n) old new before after (Race i j) a = recorded-ended files before after machine record_file (λ m. reordering_of m n) (Race i j) a
judges files (permute machine record_file n) old new before after (Refused NotSettled) a = recorded-unsettled files before after machine record_file (λ m. reordering_of m n) a
judges files (permute machine record_file n) old new before after (Refused fault) a = tt
judges files (run machine) old new before after Done a = tt
judges files (run machine) old new before after (Race i j) a = run-raced files before after machine i j a
judges files (run machine) old new before after (Refused NotSettled) a = run-settled files before after machine a
judges files (run machine) old new before after (Refused fault) a = tt
judges files (asm source) old new before after Done a = tt
judges files (asm source) old new before after (Race i j) a = asm-raced files before after source i j a
judges files (asm source) old new before after (Refused NotSettled) a = asm-settled files before after source a
judges files (asm source) old new before after (Refused fault) a = tt
judges files (gen n) old new before after Done a = gen-ended files before after n Done a
judges files (gen n) old new before after (Race i j) a = gen-ended files before after n (Race i j) a
judges files (gen n) old new before after (Refused NotSettled) a = gen-settled files before after n a
judges files (gen n) old new before after (Refused fault) a = tt
judges files (debug machine script) old new before after Done a = tt
judges files (debug machine script) old new before after (Race i j) a = debug-raced files before after machine script i j a
judges files (debug machine script) old new before after (Refused NotSettled) a = debug-settled files before after machine script a
judges files (debug machine script) old new before after (Refused fault) a = tt
judges files no_form old new before after Done a = tt
judges files no_form old new before after (Race i j) a = let is = a.1 in cc
judges files no_form old new before after (Refused NotSettled) a = none-settled files before after a
judges files no_form old new before after (Refused fault) a = tt
