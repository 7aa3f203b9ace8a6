-- The texts of refusals, without a line feed.
use Rattle.std.specs.Prelude.{ℕ, List, ◌++◌, codes}
use Rattle.std.specs.Fmt.{decimal}
use Rattle.cell_commands.specs.FaultTexts.{fault_text as input_text}
use Rattle.hunt_command.specs.declared.fault.FileId.{FileId}
use Rattle.hunt_command.specs.declared.fault.FileId.TheVariants as file_id
use Rattle.hunt_command.specs.declared.fault.Fault.{Fault}
use Rattle.hunt_command.specs.declared.fault.Fault.TheVariants.{Usage, Machine, ReadFault, TooLong, Pass, WriteFault, Memory}

abbrev pub file_text : FileId → List ℕ
file_text file_id.Expect = codes "expectation file"
file_text file_id.Pass = codes "pass file"

unfoldable pub fault_text : Fault → List ℕ
fault_text Usage =
    codes "usage: hunt MACHINE [--runs N] [--time S] [--seed S] [--from K] [--jobs N] [--expect FILE] [--pass FILE] [--warn none|print|error] [--until FILE] [--all] [--tools DIR] [--json], hunt MACHINE RUNS [SEED], hunt MACHINE each [RUNS [SEED]] or hunt MACHINE record K [SEED]"
fault_text (Machine fault) = input_text fault
fault_text (ReadFault file) = codes "cannot read " ++ file_text file
fault_text (TooLong file) = file_text file ++ codes " is too long"
fault_text (Pass line) = codes "pass file, line " ++ decimal line
fault_text WriteFault = codes "cannot write"
fault_text Memory = codes "out of memory"
