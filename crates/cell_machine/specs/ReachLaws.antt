-- What the reach of a row says about its instructions. The contracts of private functions use it; no public one does.
use Rattle.std.specs.Prelude.{◌≡◌, ℕ, ◌&&◌, Bool, true, false, is_none, List}
use Rattle.spu_decode.specs.declared.Instr.{Instr}
use Rattle.spu_decode.specs.declared.row.Row.{Row}
use Rattle.spu_exec.specs.declared.flow.Flow.{Flow}
use Rattle.spu_exec.specs.declared.flow.Flow.TheVariants.{Next, Stop, Halt, Channel}
use Rattle.spu_exec.specs.Meaning.{flow_of, loaded_at, stored_at}
use Rattle.cell_machine.specs.declared.effect.Reach.{Reach}
use Rattle.cell_machine.specs.declared.effect.Reach.TheVariants.{Registers, Store, Other}

-- neither loads nor stores
abbrev pub uses_no_bytes : Row → ℕ → ℕ → List ℕ → List ℕ → Bool
uses_no_bytes row imm pc a b = is_none (loaded_at row imm pc a b) && is_none (stored_at row imm pc a b)

-- the processor runs on at some address
abbrev pub goes_on : Flow → Bool
goes_on (Next pc) = true
goes_on (Stop code next) = false
goes_on (Halt next) = false
goes_on (Channel op) = false

-- an instruction of this row has this reach
pub record FitsReach (r : Reach) (row : Row) : Type 0 where
  pub goes : (i : Instr) (pc : ℕ) (a b t : List ℕ) → (r ≡ Other → ⊥) → goes_on (flow_of i row pc a b t) ≡ true
  pub registers : (imm pc : ℕ) (a b : List ℕ) → r ≡ Registers → uses_no_bytes row imm pc a b ≡ true
  pub store : (imm pc : ℕ) (a b : List ℕ) → r ≡ Store → uses_no_bytes row imm pc a b ≡ false
