-- How a task goes over the files of a store.
use Rattle.std.specs.Prelude.{ℕ, ◌≡◌, ◌≢◌, ◌⊎◌, List, length, nat_lt, Option, Some, None, Result, Ok, Err, if◌then◌else◌}
use Rattle.cell_machine.specs.Run.{Ran}
use Rattle.cell_commands.specs.declared.fault.Fault.{Fault}
use Rattle.cell_commands.specs.declared.fault.Fault.TheVariants.{ReadFault, TooLong, Memory}
use Rattle.cell_commands.specs.declared.fault.FileId.{FileId}
use Rattle.cell_io.specs.Files.{File, file_named}
use Rattle.cell_commands.specs.Checks.{Finds}
use Rattle.cell_commands.specs.Task.{Task, refuse, ready, judge, read, Work}

-- what a fetch gives: no such file, one that is too long, or its bytes
pub data Given : Type 0 where
  nothing : Given
  too_long : Given
  whole : List ℕ → Given

abbrev pub within : ℕ → Option (List ℕ) → Given
within limit None = nothing
within limit (Some bytes) = if nat_lt limit (length bytes) then too_long else whole bytes

abbrev pub given : List File → List ℕ → ℕ → Given
given files name limit = within limit (file_named files name)

-- what a record file comes to: the work with its run, or its refusal
abbrev pub by_run : (Ran → Work) → Result Ran Fault → Result Work Fault
by_run work (Ok m) = Ok (work m)
by_run work (Err fault) = Err fault

-- a file that can't be read whole settles its refusal
abbrev pub WithGiven : FileId → Given → Result Work Fault → (List ℕ → Type 0) → Type 0
WithGiven file nothing result go_on = result ≡ Err (ReadFault file)
WithGiven file too_long result go_on = result ≡ Err (TooLong file)
WithGiven file (whole bytes) result go_on = go_on bytes

-- what the files themselves settle: the first refusal in the task's order, or the work
abbrev pub Settles : List File → Task → Result Work Fault → Type 0
Settles files (refuse fault) result = result ≡ Err fault
Settles files (ready work) result = result ≡ Ok work
Settles files (judge setup text work) result = (found : Result Ran Fault) × Finds setup text found × (result ≡ by_run work found)
Settles files (read file name limit next) result = WithGiven file (given files name limit) result (λ bytes. Settles files (next bytes) result)

-- they settle one thing, and that isn't that memory is short
pub record SettlesOne (files : List File) (task : Task) : Type 0 where
  pub result : Result Work Fault
  pub settles : Settles files task result
  pub only : (other : Result Work Fault) → Settles files task other → other ≡ result
  pub no_memory : result ≢ Err Memory

abbrev pub if_whole : Given → (List ℕ → Type 0) → Type 0
if_whole nothing P = ⊥
if_whole too_long P = ⊥
if_whole (whole bytes) P = P bytes

-- the task comes to the reading of this file, under this name: nothing before it refuses
abbrev pub Reads : List File → Task → FileId → List ℕ → Type 0
Reads files (refuse fault) file name = ⊥
Reads files (ready work) file name = ⊥
Reads files (judge setup text work) file name = ⊥
Reads files (read f n limit next) file name =
    ((f ≡ file) × (n ≡ name)) ⊎ if_whole (given files n limit) (λ bytes. Reads files (next bytes) file name)
