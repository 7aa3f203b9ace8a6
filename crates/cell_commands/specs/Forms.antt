-- The task of each form, in the order of its refusals.
use Rattle.std.specs.Prelude.{ℕ, ◌+◌, nat_lt, if◌then◌else◌, List, [], ◌∷◌, ◌++◌, Result, Ok, Err}
use Rattle.spu_asm.specs.Images.{Image}
use Rattle.spu_asm.specs.Assembling.{assembled}
use Rattle.spu_asm.specs.declared.error.AsmError.{AsmError}
use Rattle.spu_asm.specs.declared.error.AsmError.TheVariants.{At, Memory as AsmMemory}
use Rattle.cell_load.specs.Entries.{Entry}
use Rattle.cell_load.specs.Order.{machine_at}
use Rattle.cell_load.specs.Sources.{Named, sources_of}
use Rattle.cell_load.specs.Loaded.{loaded, NoRow}
use Rattle.cell_machine.specs.Opening.{Opening}
use Rattle.cell_machine.specs.Run.{Ran}
use Rattle.cell_debug.specs.declared.line.Line.{Line}
use Rattle.cell_debug.specs.Form.{script_at}
use Rattle.cell_debug.specs.Debug.{printed}
use Rattle.cell_report.specs.Images.{image_lines}
use Rattle.cell_commands.specs.declared.fault.Fault.TheVariants.{Machine as BadMachine, Source as BadSource, Script as BadScript, NotInTable, TooLarge, Memory}
use Rattle.cell_commands.specs.declared.fault.FileId.{FileId}
use Rattle.cell_commands.specs.declared.fault.FileId.TheVariants.{Machine, Source, Rec, Script}
use Rattle.cell_commands.specs.Task.{Task, Work, refuse, ready, judge, read, run_of, text_of, verdict_of, gen_of, reordering_of}

-- how long a machine file, a source or a script may be, in bytes; so may the expectation files and pass files that hunt_command reads
abbrev pub text_limit : ℕ
text_limit = 4194304

-- ---- sources

abbrev pub with_image : FileId → Result Image AsmError → (Image → Task) → Task
with_image file (Err (At line kind)) next = refuse (BadSource file line kind)
with_image file (Err AsmMemory) next = refuse Memory
with_image file (Ok image) next = next image

-- source i is read and assembled
abbrev pub source_task : ℕ → List ℕ → (Image → Task) → Task
source_task i name next = read (Source i) name text_limit (λ text. with_image (Source i) (assembled text) next)

-- each source in turn, the i-th first, after the images so far
abbrev pub sources_task : ℕ → List Named → List Image → (List Image → Task) → Task
sources_task i [] so_far next = next so_far
sources_task i (source ∷ sources) so_far next =
    source_task i source.name (λ image. sources_task (i + 1) sources (so_far ++ image ∷ []) next)

-- ---- machine files

abbrev pub with_setup : Result Opening NoRow → (Opening → Task) → Task
with_setup (Err found) next = refuse (NotInTable found.spe found.address found.word)
with_setup (Ok setup) next = next setup

abbrev pub with_plan : {F : Type 0} → Result (List Entry) (ℕ × F) → (List Entry → Task) → Task
with_plan (Err fault) next = refuse (BadMachine fault.0)
with_plan (Ok entries) next = next entries

-- the machine file, and what its lines say
abbrev pub plan_task : List ℕ → (List Entry → Task) → Task
plan_task name next = read Machine name text_limit (λ text. with_plan (machine_at text) next)

-- the sources of these lines, and the setup that all stand for
abbrev pub planned_task : List Entry → (Opening → Task) → Task
planned_task entries next = sources_task 0 (sources_of entries) [] (λ images. with_setup (loaded entries images) next)

-- the machine file, its sources, and the setup that they stand for
abbrev pub machine_task : List ℕ → (Opening → Task) → Task
machine_task name next = plan_task name (λ entries. planned_task entries next)

-- ---- forms

-- `run MACHINE`
abbrev pub run_task : List ℕ → Task
run_task machine = machine_task machine (λ setup. ready (run_of setup))

-- how long a record file may be, and a choice file of trace_commands
abbrev pub record_limit : ℕ
record_limit = 33554432

-- work with the run that a record file has
abbrev pub recorded_task : List ℕ → List ℕ → (Ran → Work) → Task
recorded_task machine record_file work = machine_task machine (λ setup. read Rec record_file record_limit (λ text. judge setup text work))

-- `check MACHINE RECORD`
abbrev pub check_task : List ℕ → List ℕ → Task
check_task machine record_file = recorded_task machine record_file verdict_of

-- `permute MACHINE RECORD N`
abbrev pub permute_task : List ℕ → List ℕ → ℕ → Task
permute_task machine record_file n = recorded_task machine record_file (λ m. reordering_of m n)

-- `asm SOURCE`
abbrev pub asm_task : List ℕ → Task
asm_task source = source_task 0 source (λ image. ready (text_of (image_lines image)))

-- `gen N`
abbrev pub gen_task : ℕ → Task
gen_task n = if nat_lt 64 n then refuse (TooLarge n) else ready (gen_of n)

-- what a script prints of the machine of this setup at its start
abbrev pub by_script : Opening → Result (List Line) (ℕ × Unit {0}) → Task
by_script setup (Err fault) = refuse (BadScript fault.0)
by_script setup (Ok lines) = ready (text_of (printed (record { setup = setup; steps = [] }) lines))

-- `debug MACHINE SCRIPT`
abbrev pub debug_task : List ℕ → List ℕ → Task
debug_task machine script = machine_task machine (λ setup. read Script script text_limit (λ text. by_script setup (script_at setup text)))
