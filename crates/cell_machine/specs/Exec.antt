-- One instruction of one processor. The main memory has so many lines.
use Rattle.std.specs.Prelude.{ℕ, if◌then◌else◌, Option, Some, None}
use Rattle.cell_base.specs.declared.steps.ChannelOp.{ChannelOp}
use Rattle.spu_decode.specs.declared.Instr.{Instr}
use Rattle.spu_decode.specs.Spelling.{instr_of}
use Rattle.spu_exec.specs.declared.flow.Flow.{Flow}
use Rattle.spu_exec.specs.declared.flow.Flow.TheVariants.{Next, Stop, Halt, Channel}
use Rattle.spu_exec.specs.Meaning.{meaning, Outcome}
use Rattle.local_store.specs.Store.{word_at}
use Rattle.cell_machine.specs.declared.status.Status.TheVariants.{Stopped, Halted, BadWord}
use Rattle.cell_machine.specs.Spe.{Spe, is_running}
use Rattle.cell_machine.specs.Channels.{channel}

-- the channel operation that a flow asks for
abbrev pub op_of : Flow → Option ChannelOp
op_of (Next pc) = None
op_of (Stop code next) = None
op_of (Halt next) = None
op_of (Channel op) = Some op

-- what comes after the instruction
abbrev pub followed : ℕ → Spe → Flow → Option Spe
followed lines P (Next pc) = Some (record P { pc = pc })
followed lines P (Stop code next) = Some (record P { status = Stopped code; pc = next })
followed lines P (Halt next) = Some (record P { status = Halted; pc = next })
followed lines P (Channel op) = channel lines P op

abbrev pub outcome : ℕ → Spe → Outcome → Option Spe
outcome lines P o = followed lines (record P { registers = o.regs; store = o.store }) o.flow

-- a word that spells no instruction is a bad word, with the PC at it
abbrev pub exec_instr : ℕ → Spe → Option Instr → Option Spe
exec_instr lines P None = Some (record P { status = BadWord })
exec_instr lines P (Some i) = outcome lines P (meaning i P.pc P.registers P.store)

-- P after its next instruction, None where that isn't allowed
unfoldable pub exec : ℕ → Spe → Option Spe
exec lines P = if is_running P.status then exec_instr lines P (instr_of (word_at P.store P.pc)) else None

-- the channel operation that the next instruction of P asks for
abbrev pub asked_by : Spe → Option Instr → Option ChannelOp
asked_by P None = None
asked_by P (Some i) = op_of (meaning i P.pc P.registers P.store).flow

unfoldable pub asks : Spe → Option ChannelOp
asks P = asked_by P (instr_of (word_at P.store P.pc))
