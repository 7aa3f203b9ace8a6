-- Addresses of instructions, and what comes after one.
use Rattle.std.specs.Prelude.{◌≡◌, ℕ, ◌+◌, ◌%◌, ◌<◌}
use Rattle.cell_base.specs.declared.steps.ChannelOp.{ChannelOp}
use Rattle.cell_base.specs.declared.steps.ChannelOp.TheVariants.{Read, Count, Write}
use Rattle.spu_exec.specs.declared.flow.Flow.{Flow}
use Rattle.spu_exec.specs.declared.flow.Flow.TheVariants.{Next, Stop, Halt, Channel}

-- an address at which an instruction may stand
abbrev pub IsPlace : ℕ → Type 0
IsPlace pc = (pc < 262144) × (pc % 4 ≡ 0)

-- the address after an instruction; after the last one comes 0
abbrev pub next_pc : ℕ → ℕ
next_pc pc = (pc + 4) % 262144

-- what comes next is a place
abbrev pub LeadsToPlace : Flow → Type 0
LeadsToPlace (Next pc) = IsPlace pc
LeadsToPlace (Stop code next) = IsPlace next
LeadsToPlace (Halt next) = IsPlace next
LeadsToPlace (Channel op) = Unit {0}

-- the register and the channel of a channel instruction
abbrev pub RegisterFits : ChannelOp → Type 0
RegisterFits (Read rt ch) = (rt < 128) × (ch < 128)
RegisterFits (Count rt ch) = (rt < 128) × (ch < 128)
RegisterFits (Write ch value) = ch < 128
