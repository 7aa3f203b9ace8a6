-- How the program ends.
use Rattle.std.specs.Prelude.{ℕ}
use Rattle.cell_commands.specs.Code.{code_of as input_code}
use Rattle.cell_commands.specs.declared.fault.Status.TheVariants.{Refused as InputRefused}
use Rattle.hunt_command.specs.declared.fault.Fault.TheVariants.{Usage, Machine, ReadFault, WriteFault, Memory}
use Rattle.hunt_command.specs.declared.fault.Status.{Status}
use Rattle.hunt_command.specs.declared.fault.Status.TheVariants.{Clean, Found, Refused}

-- the exit status
abbrev pub code_of : Status → ℕ
code_of Clean = 0
code_of Found = 1
code_of (Refused Usage) = 2
code_of (Refused (Machine fault)) = input_code (InputRefused fault)
code_of (Refused (ReadFault file)) = 3
code_of (Refused WriteFault) = 4
code_of (Refused Memory) = 7
code_of (Refused other) = 5
