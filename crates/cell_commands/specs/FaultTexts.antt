-- The texts of refusals, without a line feed.
use Rattle.std.specs.Prelude.{ℕ, ◌-◌, false, List, ◌++◌, length, replicate, codes}
use Rattle.std.specs.Fmt.{decimal, digits}
use Rattle.spu_asm.specs.declared.error.AsmKind.{AsmKind}
use Rattle.spu_asm.specs.declared.error.AsmKind.TheVariants.{BadChar, BadNumber, UnknownName, BadDirective, BadOperand, Twice, NotMultiple, Overlap, OutsideStore, Undefined, OutOfRange}
use Rattle.cell_commands.specs.declared.fault.FileId.{FileId}
use Rattle.cell_commands.specs.declared.fault.FileId.TheVariants as file_id
use Rattle.cell_commands.specs.declared.fault.Fault.{Fault}
use Rattle.cell_commands.specs.declared.fault.Fault.TheVariants as fault

abbrev pub file_text : FileId → List ℕ
file_text file_id.Machine = codes "machine file"
file_text (file_id.Source number) = codes "source " ++ decimal number
file_text file_id.Rec = codes "record file"
file_text file_id.Script = codes "script file"

-- a fault of the assembler is told by its name
abbrev pub kind_text : AsmKind → List ℕ
kind_text BadChar = codes "BadChar"
kind_text BadNumber = codes "BadNumber"
kind_text UnknownName = codes "UnknownName"
kind_text BadDirective = codes "BadDirective"
kind_text BadOperand = codes "BadOperand"
kind_text Twice = codes "Twice"
kind_text NotMultiple = codes "NotMultiple"
kind_text Overlap = codes "Overlap"
kind_text OutsideStore = codes "OutsideStore"
kind_text Undefined = codes "Undefined"
kind_text OutOfRange = codes "OutOfRange"

-- a number in hexadecimal, with zeros in front up to this width
unfoldable pub hex_text : ℕ → ℕ → List ℕ
hex_text width n = codes "0x" ++ replicate (width - length (digits 16 false n)) 48 ++ digits 16 false n

unfoldable pub fault_text : Fault → List ℕ
fault_text fault.Usage =
    codes "usage: cell run MACHINE, check MACHINE RECORD, asm SOURCE, gen N, debug MACHINE SCRIPT or permute MACHINE RECORD N"
fault_text (fault.ReadFault file) = codes "cannot read " ++ file_text file
fault_text fault.WriteFault = codes "cannot write"
fault_text (fault.TooLong file) = file_text file ++ codes " is too long"
fault_text (fault.Machine line) = codes "machine file, line " ++ decimal line
fault_text (fault.Source file line kind) = file_text file ++ codes ", line " ++ decimal line ++ codes ": " ++ kind_text kind
fault_text (fault.NotInTable spe address word) =
    codes "processor " ++ decimal spe ++ codes ", " ++ hex_text 5 address ++ codes ": " ++ hex_text 8 word ++ codes " is not in the table"
fault_text (fault.BadRecord line) = codes "record file, line " ++ decimal line
fault_text (fault.NotARun at) = codes "step " ++ decimal at ++ codes " is not allowed"
fault_text (fault.StatesDiffer at) = codes "states differ at byte " ++ decimal at
fault_text (fault.TooLarge n) = decimal n ++ codes " is above 64"
fault_text (fault.Script line) = codes "script file, line " ++ decimal line
fault_text fault.NotSettled = codes "the run is not settled"
fault_text fault.Memory = codes "out of memory"
