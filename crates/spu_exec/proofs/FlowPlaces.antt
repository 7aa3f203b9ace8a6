-- From an address at which an instruction may stand each instruction leads to another.
use Rattle.std.proofs.Common.{◌≡◌, ℕ, ◌+◌, ◌*◌, ◌%◌, ◌^◌, ◌==◌, Bool, true, false, not, List, arith}
use Rattle.std.specs.Prelude.{nat_lt}
use Rattle.std.specs.Int.{w32}
use Rattle.cell_base.specs.Lanes.{first_word, extended}
use Rattle.spu_decode.specs.declared.Instr.{Instr}
use Rattle.spu_decode.specs.declared.row.Row.{Row}
use Rattle.spu_decode.specs.declared.row.Row.TheVariants.{Heq, Heqi, Hgt, Hgti, Hlgt, Hlgti, Br, Bra, Brsl, Brasl, Bi, Bisl, Brnz, Brz, Brhnz, Brhz, Binz, Biz, Bihnz, Bihz, Stop, Rdch, Rchcnt, Wrch}
use Rattle.spu_exec.specs.Meaning.{flow_of, branch_if, halt_if, direct, indirect, relative, absolute, is_zero, is_half_zero, signed_above}
use Rattle.spu_exec.specs.Places.{IsPlace, LeadsToPlace, next_pc}

pub next-place : (pc : ℕ) → IsPlace pc → IsPlace (next_pc pc)
next-place pc here = let even = here.1 in (omega arith, omega arith)

word_place : (x : ℕ) → x % 4 ≡ 0 → IsPlace (direct (x % 2 ^ 32))
word_place x even = (omega arith, omega arith)

relative_place : (imm pc : ℕ) → IsPlace pc → IsPlace (direct (relative imm pc))
relative_place imm pc here = word_place (pc + 4 * extended 16 w32 imm) (let even = here.1 in omega arith)

absolute_place : (imm : ℕ) → IsPlace (direct (absolute imm))
absolute_place imm = word_place (4 * extended 16 w32 imm) (omega arith)

indirect_place : (a : List ℕ) → IsPlace (indirect a)
indirect_place a = (omega arith, omega arith)

branch : (taken : Bool) (target pc : ℕ) → IsPlace pc → IsPlace target → LeadsToPlace (branch_if taken target pc)
branch true target pc here there = there
branch false target pc here there = next-place pc here

halt : (holds : Bool) (pc : ℕ) → IsPlace pc → LeadsToPlace (halt_if holds pc)
halt true pc here = next-place pc here
halt false pc here = next-place pc here

pub flow-leads : (i : Instr) (row : Row) (pc : ℕ) (a b t : List ℕ) → IsPlace pc → LeadsToPlace (flow_of i row pc a b t)
flow-leads i Br pc a b t here = relative_place i.imm pc here
flow-leads i Bra pc a b t here = absolute_place i.imm
flow-leads i Brsl pc a b t here = relative_place i.imm pc here
flow-leads i Brasl pc a b t here = absolute_place i.imm
flow-leads i Bi pc a b t here = indirect_place a
flow-leads i Bisl pc a b t here = indirect_place a
flow-leads i Brnz pc a b t here = branch (not (is_zero t)) _ pc here (relative_place i.imm pc here)
flow-leads i Brz pc a b t here = branch (is_zero t) _ pc here (relative_place i.imm pc here)
flow-leads i Brhnz pc a b t here = branch (not (is_half_zero t)) _ pc here (relative_place i.imm pc here)
flow-leads i Brhz pc a b t here = branch (is_half_zero t) _ pc here (relative_place i.imm pc here)
flow-leads i Binz pc a b t here = branch (not (is_zero t)) _ pc here (indirect_place a)
flow-leads i Biz pc a b t here = branch (is_zero t) _ pc here (indirect_place a)
flow-leads i Bihnz pc a b t here = branch (not (is_half_zero t)) _ pc here (indirect_place a)
flow-leads i Bihz pc a b t here = branch (is_half_zero t) _ pc here (indirect_place a)
flow-leads i Heq pc a b t here = halt (first_word a == first_word b) pc here
flow-leads i Heqi pc a b t here = halt (first_word a == extended 10 w32 i.imm) pc here
flow-leads i Hgt pc a b t here = halt (signed_above (first_word a) (first_word b)) pc here
flow-leads i Hgti pc a b t here = halt (signed_above (first_word a) (extended 10 w32 i.imm)) pc here
flow-leads i Hlgt pc a b t here = halt (nat_lt (first_word b) (first_word a)) pc here
flow-leads i Hlgti pc a b t here = halt (nat_lt (extended 10 w32 i.imm) (first_word a)) pc here
flow-leads i Stop pc a b t here = next-place pc here
flow-leads i Rdch pc a b t here = tt
flow-leads i Rchcnt pc a b t here = tt
flow-leads i Wrch pc a b t here = tt
flow-leads i row pc a b t here = next-place pc here
