-- The forms of words.
use Rattle.std.specs.Prelude.{ℕ, Bool, List, [], ◌∷◌, nat_eq, if◌then◌else◌, codes, Option, Some, None}
use Rattle.std.specs.Cmp.Lexicographic.{pointwise}
use Rattle.cell_base.specs.Numbers.{decimal_number}
use Rattle.cell_commands.specs.declared.fault.Fault.TheVariants.{Usage}
use Rattle.cell_commands.specs.declared.fault.FileId.{FileId}
use Rattle.cell_commands.specs.declared.fault.FileId.TheVariants.{Source}
use Rattle.cell_commands.specs.declared.words.Form.{Form}
use Rattle.cell_commands.specs.declared.words.Form.TheVariants.{Run, Check, Asm, Gen, Debug, Permute, NoForm}
use Rattle.cell_io.specs.Store.{Ledger}
use Rattle.cell_commands.specs.Task.{Task, refuse}
use Rattle.cell_commands.specs.Forms.{run_task, check_task, asm_task, gen_task, debug_task, permute_task}
use Rattle.cell_commands.specs.Answer.{AtFile, AtMachine, AtMachineOrRecord, AtMachineOrScript}

-- what the words say
pub data Spoken : Type 0 where
  run : List ℕ → Spoken
  check : List ℕ → List ℕ → Spoken
  asm : List ℕ → Spoken
  gen : ℕ → Spoken
  debug : List ℕ → List ℕ → Spoken
  permute : List ℕ → List ℕ → ℕ → Spoken
  no_form : Spoken

abbrev pub is_word : List ℕ → List ℕ → Bool
is_word text word = pointwise nat_eq text word

-- `gen` with a word that is to be a number
abbrev pub gen_said : Option ℕ → Spoken
gen_said None = no_form
gen_said (Some n) = gen n

-- `permute` with two files and a word that is to be a number
abbrev pub permute_said : List ℕ → List ℕ → Option ℕ → Spoken
permute_said machine record_file None = no_form
permute_said machine record_file (Some n) = permute machine record_file n

abbrev pub spoken : List (List ℕ) → Spoken
spoken [] = no_form
spoken (form ∷ []) = no_form
spoken (form ∷ a ∷ []) =
    if is_word form (codes "run") then run a
    else if is_word form (codes "asm") then asm a
    else if is_word form (codes "gen") then gen_said (decimal_number a)
    else no_form
spoken (form ∷ a ∷ b ∷ []) =
    if is_word form (codes "check") then check a b
    else if is_word form (codes "debug") then debug a b
    else no_form
spoken (form ∷ a ∷ b ∷ c ∷ []) =
    if is_word form (codes "permute") then permute_said a b (decimal_number c)
    else no_form
spoken (form ∷ a ∷ b ∷ c ∷ d ∷ more) = no_form

-- what a form that was read says
abbrev pub said : Form → Spoken
said (Run machine) = run machine.now
said (Check machine record_file) = check machine.now record_file.now
said (Asm source) = asm source.now
said (Gen n) = gen n
said (Debug machine script) = debug machine.now script.now
said (Permute machine record_file n) = permute machine.now record_file.now n
said NoForm = no_form

-- they ask for no run
abbrev pub AsksForNoRun : Spoken → Type 0
AsksForNoRun (run machine) = ⊥
AsksForNoRun (gen n) = ⊥
AsksForNoRun spoken = Unit {0}

-- what they ask for
abbrev pub task_of : Spoken → Task
task_of (run machine) = run_task machine
task_of (check machine record_file) = check_task machine record_file
task_of (asm source) = asm_task source
task_of (gen n) = gen_task n
task_of (debug machine script) = debug_task machine script
task_of (permute machine record_file n) = permute_task machine record_file n
task_of no_form = refuse Usage

-- the files that may fail, and how, whatever the store tells
abbrev pub FailsIn : Spoken → FileId → Ledger → Ledger → Type 0
FailsIn (run machine) file old new = AtMachine machine file old new
FailsIn (check machine record_file) file old new = AtMachineOrRecord machine record_file file old new
FailsIn (asm source) file old new = AtFile (Source 0) source file old new
FailsIn (debug machine script) file old new = AtMachineOrScript machine script file old new
FailsIn (permute machine record_file n) file old new = AtMachineOrRecord machine record_file file old new
FailsIn other file old new = ⊥
