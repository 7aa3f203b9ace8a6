-- What a refusal of a layer is called by the program.
use Rattle.cell_load.specs.declared.plan.PlanError.{PlanError}
use Rattle.cell_load.specs.declared.plan.PlanError.TheVariants.{BadLine, Limit, Memory as PlanMemory}
use Rattle.spu_asm.specs.declared.error.AsmError.{AsmError}
use Rattle.spu_asm.specs.declared.error.AsmError.TheVariants.{At, Memory as AsmMemory}
use Rattle.cell_load.specs.declared.loading.LoadError.{LoadError}
use Rattle.cell_load.specs.declared.loading.LoadError.TheVariants.{NotInTable as NoRow, Memory as LoadMemory}
use Rattle.run_record.specs.declared.error.RecordError.{RecordError}
use Rattle.run_record.specs.declared.error.RecordError.TheVariants as record_error
use Rattle.cell_debug.specs.declared.error.ScriptError.{ScriptError}
use Rattle.cell_debug.specs.declared.error.ScriptError.TheVariants as script_error
use Rattle.cell_gen.specs.declared.error.GenError.{GenError}
use Rattle.cell_gen.specs.declared.error.GenError.TheVariants as gen_error
use Rattle.cell_commands.specs.declared.fault.FileId.{FileId}
use Rattle.cell_commands.specs.declared.fault.Fault.{Fault}
use Rattle.cell_commands.specs.declared.fault.Fault.TheVariants.{Machine, Source, NotInTable, BadRecord, TooLarge, Script, Memory, Usage, WriteFault}

abbrev pub plan_fault_of : PlanError → Fault
plan_fault_of (BadLine line) = Machine line
plan_fault_of (Limit line) = Machine line
plan_fault_of PlanMemory = Memory

abbrev pub source_fault_of : FileId → AsmError → Fault
source_fault_of file (At line kind) = Source file line kind
source_fault_of file AsmMemory = Memory

abbrev pub load_fault_of : LoadError → Fault
load_fault_of (NoRow spe address word) = NotInTable spe address word
load_fault_of LoadMemory = Memory

abbrev pub record_fault_of : RecordError → Fault
record_fault_of (record_error.BadLine line) = BadRecord line
record_fault_of record_error.Memory = Memory

abbrev pub script_fault_of : ScriptError → Fault
script_fault_of (script_error.BadLine line) = Script line
script_fault_of script_error.Memory = Memory

abbrev pub gen_fault_of : GenError → Fault
gen_fault_of (gen_error.TooLarge n) = TooLarge n
gen_fault_of gen_error.Memory = Memory

-- it says something of the input, and nothing of the words or the output
abbrev pub IsOfInput : Fault → Type 0
IsOfInput Usage = ⊥
IsOfInput WriteFault = ⊥
IsOfInput fault = Unit {0}
