-- How the program ends.
use Rattle.std.specs.Prelude.{ℕ}
use Rattle.race_check.specs.declared.check.Verdict.{Verdict}
use Rattle.race_check.specs.declared.check.Verdict.TheVariants.{Accepted, Race as Racing}
use Rattle.cell_commands.specs.declared.fault.Fault.TheVariants.{Usage, ReadFault, WriteFault, NotARun, StatesDiffer, NotSettled, Memory}
use Rattle.cell_commands.specs.declared.fault.Status.{Status}
use Rattle.cell_commands.specs.declared.fault.Status.TheVariants.{Done, Race, Refused}

-- where a verdict was written
abbrev pub status_of : Verdict → Status
status_of Accepted = Done
status_of (Racing first second) = Race first second

-- the exit status
abbrev pub code_of : Status → ℕ
code_of Done = 0
code_of (Race first second) = 1
code_of (Refused Usage) = 2
code_of (Refused (ReadFault file)) = 3
code_of (Refused WriteFault) = 4
code_of (Refused (NotARun at)) = 6
code_of (Refused (StatesDiffer at)) = 6
code_of (Refused NotSettled) = 6
code_of (Refused Memory) = 7
code_of (Refused fault) = 5
