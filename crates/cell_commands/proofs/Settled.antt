-- Any files settle one thing, and want of memory is nothing that they settle.
use Rattle.std.proofs.Common.{◌≡◌, ℕ, ◌+◌, Bool, true, false, cond, List, [], ◌∷◌, ◌++◌, Result, Ok, Err, refl, sym, ap, ◌∙◌}
use Rattle.std.specs.Prelude.{◌≢◌, nat_lt}
use Rattle.cell_io.specs.Files.{File}
use Rattle.spu_asm.specs.Images.{Image}
use Rattle.spu_asm.specs.Assembling.{assembled}
use Rattle.spu_asm.proofs.NoMemory.{assembled_no_memory}
use Rattle.spu_asm.specs.declared.error.AsmError.{AsmError}
use Rattle.spu_asm.specs.declared.error.AsmError.TheVariants.{At, Memory as AsmMemory}
use Rattle.cell_load.specs.Entries.{Entry}
use Rattle.cell_load.specs.Order.{machine_at}
use Rattle.cell_load.specs.Sources.{Named, sources_of}
use Rattle.cell_load.specs.Loaded.{loaded, NoRow}
use Rattle.cell_machine.specs.Opening.{Opening}
use Rattle.cell_machine.specs.Run.{Ran}
use Rattle.cell_debug.specs.declared.line.Line.{Line}
use Rattle.cell_debug.specs.Form.{script_at}
use Rattle.cell_report.specs.Images.{image_lines}
use Rattle.cell_commands.specs.declared.fault.Fault.{Fault}
use Rattle.cell_commands.specs.declared.fault.Fault.TheVariants.{ReadFault, TooLong, TooLarge, Memory}
use Rattle.cell_commands.specs.declared.fault.FileId.{FileId}
use Rattle.cell_commands.specs.declared.fault.FileId.TheVariants.{Machine, Source, Rec, Script}
use Rattle.cell_commands.specs.Checks.{Finds}
use Rattle.cell_commands.specs.Task.{Task, Work, refuse, ready, judge, read, run_of, text_of, verdict_of, gen_of, reordering_of}
use Rattle.cell_commands.specs.Course.{Given, nothing, too_long, whole, given, by_run, WithGiven, Settles, SettlesOne}
use Rattle.cell_commands.specs.Forms.{text_limit, record_limit, with_image, source_task, sources_task, with_setup, with_plan, planned_task, machine_task, recorded_task, by_script}
use Rattle.cell_commands.specs.Words.{Spoken, run, check, asm, gen, debug, permute, no_form, task_of}
use Rattle.cell_commands.proofs.Checked.{checked, is_checked, finds}

module _ (files : List File) where
  -- ---- one thing

  given-once : (file : FileId) (g : Given) (next : List ℕ → Task) (one other : Result Work Fault) → ((bytes : List ℕ) → Settles files (next bytes) one → Settles files (next bytes) other → one ≡ other)
      → WithGiven file g one (λ bytes. Settles files (next bytes) one) → WithGiven file g other (λ bytes. Settles files (next bytes) other) → one ≡ other
  given-once file nothing next one other h a b = a ∙ sym b
  given-once file too_long next one other h a b = a ∙ sym b
  given-once file (whole bytes) next one other h a b = h bytes a b

  pub settled_once : (task : Task) (one other : Result Work Fault) → Settles files task one → Settles files task other → one ≡ other
  settled_once (refuse fault) one other a b = a ∙ sym b
  settled_once (ready work) one other a b = a ∙ sym b
  settled_once (judge setup text work) one other a b = a.2 ∙ ap (by_run work) (is_checked setup text a.0 a.1 ∙ sym (is_checked setup text b.0 b.1)) ∙ sym b.2
  settled_once (read file name limit next) one other a b = given-once file (given files name limit) next one other (λ bytes. settled_once (next bytes) one other) a b

  -- ---- something

  given-some : (file : FileId) (g : Given) (next : List ℕ → Task) → ((bytes : List ℕ) → (result : Result Work Fault) × Settles files (next bytes) result)
      → (result : Result Work Fault) × WithGiven file g result (λ bytes. Settles files (next bytes) result)
  given-some file nothing next h = (Err (ReadFault file), refl)
  given-some file too_long next h = (Err (TooLong file), refl)
  given-some file (whole bytes) next h = h bytes

  settled : (task : Task) → (result : Result Work Fault) × Settles files task result
  settled (refuse fault) = (Err fault, refl)
  settled (ready work) = (Ok work, refl)
  settled (judge setup text work) = (by_run work (checked setup text), (checked setup text, finds setup text, refl))
  settled (read file name limit next) = given-some file (given files name limit) next (λ bytes. settled (next bytes))

  -- ---- no want of memory

  abbrev NeverMemory : Task → Type 0
  NeverMemory task = (result : Result Work Fault) → Settles files task result → result ≢ Err Memory

  found-memory : (setup : Opening) (text : List ℕ) (work : Ran → Work) (found : Result Ran Fault) → Finds setup text found → by_run work found ≢ Err Memory
  found-memory setup text work (Ok m) f e = cc
  found-memory setup text work (Err Memory) f e = f
  found-memory setup text work (Err fault) f e = cc

  judge-memory : (setup : Opening) (text : List ℕ) (work : Ran → Work) → NeverMemory (judge setup text work)
  judge-memory setup text work result is e = found-memory setup text work is.0 is.1 (sym is.2 ∙ e)

  ready-memory : (work : Work) → NeverMemory (ready work)
  ready-memory work result is e = let both : ◌≡◌ {A = Result Work Fault} (Ok work) (Err Memory) = sym is ∙ e in cc

  refuse-memory : (fault : Fault) → fault ≢ Memory → NeverMemory (refuse fault)
  refuse-memory fault other result is e = let both : ◌≡◌ {A = Result Work Fault} (Err fault) (Err Memory) = sym is ∙ e in other cc

  given-memory : (file : FileId) (g : Given) (next : List ℕ → Task) → ((bytes : List ℕ) → NeverMemory (next bytes)) → (result : Result Work Fault) → WithGiven file g result (λ bytes. Settles files (next bytes) result) → result ≢ Err Memory
  given-memory file nothing next h result is e = cc
  given-memory file too_long next h result is e = cc
  given-memory file (whole bytes) next h result is e = h bytes result is e

  read-memory : (file : FileId) (name : List ℕ) (limit : ℕ) (next : List ℕ → Task) → ((bytes : List ℕ) → NeverMemory (next bytes)) → NeverMemory (read file name limit next)
  read-memory file name limit next h result is = given-memory file (given files name limit) next h result is

  image-memory : (file : FileId) (r : Result Image AsmError) (next : Image → Task) → r ≢ Err AsmMemory → ((image : Image) → NeverMemory (next image)) → NeverMemory (with_image file r next)
  image-memory file (Err (At line kind)) next told h = refuse-memory _ (λ e. cc)
  image-memory file (Err AsmMemory) next told h = absurd (told refl)
  image-memory file (Ok image) next told h = h image

  source-memory : (i : ℕ) (name : List ℕ) (next : Image → Task) → ((image : Image) → NeverMemory (next image)) → NeverMemory (source_task i name next)
  source-memory i name next h = read-memory (Source i) name text_limit (λ text. with_image (Source i) (assembled text) next) (λ text. image-memory (Source i) (assembled text) next (assembled_no_memory text) h)

  sources-memory : (sources : List Named) (i : ℕ) (so_far : List Image) (next : List Image → Task) → ((images : List Image) → NeverMemory (next images)) → NeverMemory (sources_task i sources so_far next)
  sources-memory [] i so_far next h = h so_far
  sources-memory (source ∷ sources) i so_far next h =
      source-memory i source.name (λ image. sources_task (i + 1) sources (so_far ++ image ∷ []) next) (λ image. sources-memory sources (i + 1) (so_far ++ image ∷ []) next h)

  setup-memory : (r : Result Opening NoRow) (next : Opening → Task) → ((setup : Opening) → NeverMemory (next setup)) → NeverMemory (with_setup r next)
  setup-memory (Err found) next h = refuse-memory _ (λ e. cc)
  setup-memory (Ok setup) next h = h setup

  plan-memory : {F : Type 0} (r : Result (List Entry) (ℕ × F)) (next : List Entry → Task) → ((entries : List Entry) → NeverMemory (next entries)) → NeverMemory (with_plan r next)
  plan-memory (Err fault) next h = refuse-memory _ (λ e. cc)
  plan-memory (Ok entries) next h = h entries

  planned-memory : (entries : List Entry) (next : Opening → Task) → ((setup : Opening) → NeverMemory (next setup)) → NeverMemory (planned_task entries next)
  planned-memory entries next h = sources-memory (sources_of entries) 0 [] (λ images. with_setup (loaded entries images) next) (λ images. setup-memory (loaded entries images) next h)

  machine-memory : (name : List ℕ) (next : Opening → Task) → ((setup : Opening) → NeverMemory (next setup)) → NeverMemory (machine_task name next)
  machine-memory name next h =
      let go : List Entry → Task = λ entries. planned_task entries next in
      read-memory Machine name text_limit (λ text. with_plan (machine_at text) go) (λ text. plan-memory (machine_at text) go (λ entries. planned-memory entries next h))

  recorded-memory : (machine record_file : List ℕ) (work : Ran → Work) → NeverMemory (recorded_task machine record_file work)
  recorded-memory machine record_file work =
      machine-memory machine (λ setup. read Rec record_file record_limit (λ text. judge setup text work))
      (λ setup. read-memory Rec record_file record_limit (λ text. judge setup text work) (λ text. judge-memory setup text work))

  number-memory : (n : ℕ) (b : Bool) → NeverMemory (cond b (refuse (TooLarge n)) (ready (gen_of n)))
  number-memory n true = refuse-memory _ (λ e. cc)
  number-memory n false = ready-memory (gen_of n)

  script-memory : (setup : Opening) (r : Result (List Line) (ℕ × Unit {0})) → NeverMemory (by_script setup r)
  script-memory setup (Err fault) = refuse-memory _ (λ e. cc)
  script-memory setup (Ok lines) = ready-memory _

  words-memory : (words : Spoken) → NeverMemory (task_of words)
  words-memory (run machine) = machine-memory machine (λ setup. ready (run_of setup)) (λ setup. ready-memory (run_of setup))
  words-memory (check machine record_file) = recorded-memory machine record_file verdict_of
  words-memory (permute machine record_file n) = recorded-memory machine record_file (λ m. reordering_of m n)
  words-memory (asm source) = source-memory 0 source (λ image. ready (text_of (image_lines image))) (λ image. ready-memory (text_of (image_lines image)))
  words-memory (gen n) = number-memory n (nat_lt 64 n)
  words-memory (debug machine script) =
      machine-memory machine (λ setup. read Script script text_limit (λ text. by_script setup (script_at setup text)))
      (λ setup. read-memory Script script text_limit (λ text. by_script setup (script_at setup text)) (λ text. script-memory setup (script_at setup text)))
  words-memory no_form = refuse-memory _ (λ e. cc)

  pub settles_one : (words : Spoken) → SettlesOne files (task_of words)
  settles_one words =
      let is = settled (task_of words) in
      record {
        result = is.0;
        settles = is.1;
        only = λ other o. settled_once (task_of words) other is.0 o is.1;
        no_memory = words-memory words is.0 is.1;
      }
