-- What a form of words asks for: files to read, one after the other, and then a refusal, work to do, or a record file to check, with what is to
-- be done with its run.
use Rattle.std.specs.Prelude.{ℕ, List}
use Rattle.cell_machine.specs.Opening.{Opening}
use Rattle.cell_machine.specs.Run.{Ran}
use Rattle.cell_commands.specs.declared.fault.Fault.{Fault}
use Rattle.cell_commands.specs.declared.fault.FileId.{FileId}

-- the texts of one run of this setup; this text; the verdict on this run; the summary of one run of the machine that is generated for this number;
-- or the texts of this run in the order of this number
pub data Work : Type 0 where
  run_of : Opening → Work
  text_of : List ℕ → Work
  verdict_of : Ran → Work
  gen_of : ℕ → Work
  reordering_of : Ran → ℕ → Work

pub data Task : Type 0 where
  refuse : Fault → Task
  ready : Work → Task
  judge : Opening → List ℕ → (Ran → Work) → Task
  read : FileId → List ℕ → ℕ → (List ℕ → Task) → Task
