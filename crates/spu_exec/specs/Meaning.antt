-- What an instruction does: what RT becomes, what is stored where, and what comes next.
-- Below, a, b, c and t are the quadwords of RA, RB, RC and RT before the instruction.
use Rattle.std.specs.Prelude.{ℕ, ◌+◌, ◌*◌, ◌/◌, ◌%◌, ◌^◌, Bool, ◌==◌, nat_lt, not, if◌then◌else◌, List, Option, Some, None, slice_set}
use Rattle.std.specs.Int.{w32, cast_signed}
use Rattle.std.specs.Int.Signed.{lt_z}
use Rattle.cell_base.specs.Bytes.{put}
use Rattle.cell_base.specs.Lanes.{first_word, in_first_word, extended, lo}
use Rattle.cell_base.specs.declared.steps.ChannelOp.TheVariants.{Read, Count, Write}
use Rattle.spu_regs.specs.Registers.{register}
use Rattle.local_store.specs.Store.{line_of, quad_at}
use Rattle.spu_decode.specs.declared.Instr.{Instr}
use Rattle.spu_decode.specs.declared.row.Row.{Row}
use Rattle.spu_decode.specs.declared.row.Row.TheVariants.{Lqd, Stqd, Lqx, Stqx, Lqa, Stqa, Lqr, Stqr, Heq, Heqi, Hgt, Hgti, Hlgt, Hlgti, Br, Bra, Brsl, Brasl, Bi, Bisl, Brnz, Brz, Brhnz, Brhz, Binz, Biz, Bihnz, Bihz, Stop, Rdch, Rchcnt, Wrch}
use Rattle.spu_exec.specs.declared.flow.Flow.{Flow}
use Rattle.spu_exec.specs.declared.flow.Flow.TheVariants.{Next, Stop as StopFlow, Halt, Channel}
use Rattle.spu_exec.specs.Places.{next_pc}
use Rattle.spu_exec.specs.Computed.{computed}

-- ---- addresses, of 32 bits

-- the displacement counts quadwords from the address in RA
abbrev pub displaced : ℕ → List ℕ → ℕ
displaced imm a = (first_word a + 16 * extended 10 w32 imm) % 2 ^ 32

-- the sum of the words in RA and RB
abbrev pub indexed : List ℕ → List ℕ → ℕ
indexed a b = (first_word a + first_word b) % 2 ^ 32

-- the immediate counts words from address 0
abbrev pub absolute : ℕ → ℕ
absolute imm = (4 * extended 16 w32 imm) % 2 ^ 32

-- the immediate counts words from the instruction
abbrev pub relative : ℕ → ℕ → ℕ
relative imm pc = (pc + 4 * extended 16 w32 imm) % 2 ^ 32

-- ---- what RT becomes, if the row sets it: by a load, by a link, or by a computation

abbrev pub value_of : Row → ℕ → ℕ → List ℕ → List ℕ → List ℕ → List ℕ → List ℕ → Option (List ℕ)
value_of Lqd imm pc a b c t store = Some (quad_at store (displaced imm a))
value_of Lqx imm pc a b c t store = Some (quad_at store (indexed a b))
value_of Lqa imm pc a b c t store = Some (quad_at store (absolute imm))
value_of Lqr imm pc a b c t store = Some (quad_at store (relative imm pc))
value_of Brsl imm pc a b c t store = Some (in_first_word (next_pc pc))
value_of Brasl imm pc a b c t store = Some (in_first_word (next_pc pc))
value_of Bisl imm pc a b c t store = Some (in_first_word (next_pc pc))
value_of row imm pc a b c t store = computed row imm a b c t

-- ---- the address at which RT is stored, if the row stores it

abbrev pub stored_at : Row → ℕ → ℕ → List ℕ → List ℕ → Option ℕ
stored_at Stqd imm pc a b = Some (displaced imm a)
stored_at Stqx imm pc a b = Some (indexed a b)
stored_at Stqa imm pc a b = Some (absolute imm)
stored_at Stqr imm pc a b = Some (relative imm pc)
stored_at row imm pc a b = None

-- ---- the address at which a quadword is loaded, if the row loads one

abbrev pub loaded_at : Row → ℕ → ℕ → List ℕ → List ℕ → Option ℕ
loaded_at Lqd imm pc a b = Some (displaced imm a)
loaded_at Lqx imm pc a b = Some (indexed a b)
loaded_at Lqa imm pc a b = Some (absolute imm)
loaded_at Lqr imm pc a b = Some (relative imm pc)
loaded_at row imm pc a b = None

-- ---- what comes next

-- direct targets are masked with 0x3FFFF, indirect ones with 0x3FFFC
abbrev pub direct : ℕ → ℕ
direct at = at % 2 ^ 18

abbrev pub indirect : List ℕ → ℕ
indirect a = first_word a / 4 % 2 ^ 16 * 4

-- the target where the branch is taken, else the next instruction
abbrev pub branch_if : Bool → ℕ → ℕ → Flow
branch_if taken target pc = if taken then Next target else Next (next_pc pc)

-- a halt where it holds, else the next instruction
abbrev pub halt_if : Bool → ℕ → Flow
halt_if holds pc = if holds then Halt (next_pc pc) else Next (next_pc pc)

-- word 0, or its right halfword, is zero
abbrev pub is_zero : List ℕ → Bool
is_zero t = first_word t == 0

abbrev pub is_half_zero : List ℕ → Bool
is_half_zero t = lo (first_word t) == 0

-- x is above y, both words read as signed
abbrev pub signed_above : ℕ → ℕ → Bool
signed_above x y = lt_z (cast_signed w32 y) (cast_signed w32 x)

-- hints, `nop`, `lnop`, `sync` and `dsync` have no effect but this
abbrev pub flow_of : Instr → Row → ℕ → List ℕ → List ℕ → List ℕ → Flow
flow_of i Br pc a b t = Next (direct (relative i.imm pc))
flow_of i Bra pc a b t = Next (direct (absolute i.imm))
flow_of i Brsl pc a b t = Next (direct (relative i.imm pc))
flow_of i Brasl pc a b t = Next (direct (absolute i.imm))
flow_of i Bi pc a b t = Next (indirect a)
flow_of i Bisl pc a b t = Next (indirect a)
flow_of i Brnz pc a b t = branch_if (not (is_zero t)) (direct (relative i.imm pc)) pc
flow_of i Brz pc a b t = branch_if (is_zero t) (direct (relative i.imm pc)) pc
flow_of i Brhnz pc a b t = branch_if (not (is_half_zero t)) (direct (relative i.imm pc)) pc
flow_of i Brhz pc a b t = branch_if (is_half_zero t) (direct (relative i.imm pc)) pc
flow_of i Binz pc a b t = branch_if (not (is_zero t)) (indirect a) pc
flow_of i Biz pc a b t = branch_if (is_zero t) (indirect a) pc
flow_of i Bihnz pc a b t = branch_if (not (is_half_zero t)) (indirect a) pc
flow_of i Bihz pc a b t = branch_if (is_half_zero t) (indirect a) pc
flow_of i Heq pc a b t = halt_if (first_word a == first_word b) pc
flow_of i Heqi pc a b t = halt_if (first_word a == extended 10 w32 i.imm) pc
flow_of i Hgt pc a b t = halt_if (signed_above (first_word a) (first_word b)) pc
flow_of i Hgti pc a b t = halt_if (signed_above (first_word a) (extended 10 w32 i.imm)) pc
flow_of i Hlgt pc a b t = halt_if (nat_lt (first_word b) (first_word a)) pc
flow_of i Hlgti pc a b t = halt_if (nat_lt (extended 10 w32 i.imm) (first_word a)) pc
flow_of i Stop pc a b t = StopFlow i.imm (next_pc pc)
flow_of i Rdch pc a b t = Channel (Read i.rt i.ra)
flow_of i Rchcnt pc a b t = Channel (Count i.rt i.ra)
flow_of i Wrch pc a b t = Channel (Write i.ra (first_word t))
flow_of i row pc a b t = Next (next_pc pc)

-- ---- all of it

-- what an instruction leaves
pub record Outcome : Type 0 where
  pub regs : List (List ℕ)
  pub store : List ℕ
  pub flow : Flow

-- the registers with a value in RT, if there is one
abbrev pub with_value : ℕ → Option (List ℕ) → List (List ℕ) → List (List ℕ)
with_value rt (Some q) regs = slice_set regs rt q
with_value rt None regs = regs

-- the store with a quadword at an address, if there is one
abbrev pub with_stored : Option ℕ → List ℕ → List ℕ → List ℕ
with_stored (Some at) t store = put store (line_of at) t
with_stored None t store = store

-- the registers, the store and what comes next, after an instruction at an address
unfoldable pub meaning : Instr → ℕ → List (List ℕ) → List ℕ → Outcome
meaning i pc regs store =
    let a = register regs i.ra in
    let b = register regs i.rb in
    let c = register regs i.rc in
    let t = register regs i.rt in
    record {
      regs = with_value i.rt (value_of i.row i.imm pc a b c t store) regs;
      store = with_stored (stored_at i.row i.imm pc a b) t store;
      flow = flow_of i i.row pc a b t;
    }
