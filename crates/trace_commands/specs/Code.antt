-- How the program ends, and what it calls a refusal of a layer.
use Rattle.std.specs.Prelude.{ℕ}
use Rattle.cell_commands.specs.Code.{code_of as input_code}
use Rattle.cell_commands.specs.declared.fault.Fault.{Fault as InputFault}
use Rattle.cell_commands.specs.declared.fault.Fault.TheVariants.{Memory as InputMemory}
use Rattle.cell_commands.specs.declared.fault.Status.TheVariants.{Refused as InputRefused}
use Rattle.trace_commands.specs.declared.fault.Fault.{Fault}
use Rattle.trace_commands.specs.declared.fault.Fault.TheVariants.{Usage, Input, ReadFault, WriteFault, Memory}
use Rattle.trace_commands.specs.declared.fault.Status.{Status}
use Rattle.trace_commands.specs.declared.fault.Status.TheVariants.{Done, Refused}

-- the exit status
abbrev pub code_of : Status → ℕ
code_of Done = 0
code_of (Refused Usage) = 2
code_of (Refused (Input fault)) = input_code (InputRefused fault)
code_of (Refused ReadFault) = 3
code_of (Refused WriteFault) = 4
code_of (Refused Memory) = 7
code_of (Refused other) = 5

-- what a refusal of the machine file, of a source or of the record file is called
abbrev pub told_as : InputFault → Fault
told_as InputMemory = Memory
told_as fault = Input fault
