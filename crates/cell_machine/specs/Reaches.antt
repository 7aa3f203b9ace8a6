-- The reach of a processor's next instruction: what it uses.
use Rattle.std.specs.Prelude.{◌≡◌, ℕ, ◌==◌, ◌&&◌, Bool, true, false, not, nat_lt, if◌then◌else◌, length, Option, None, IsSome, IsSomeAnd}
use Rattle.std.specs.Option.{option_map_or}
use Rattle.cell_base.specs.declared.steps.Step.TheVariants.{Exec}
use Rattle.spu_decode.specs.declared.Instr.{Instr}
use Rattle.spu_decode.specs.declared.row.Row.{Row}
use Rattle.spu_decode.specs.declared.row.Row.TheVariants.{Lqd, Stqd, Lqx, Stqx, Lqa, Stqa, Lqr, Stqr, Heq, Heqi, Hgt, Hgti, Hlgt, Hlgti, Stop, Rdch, Rchcnt, Wrch}
use Rattle.cell_machine.specs.declared.effect.Reach.{Reach}
use Rattle.cell_machine.specs.declared.effect.Reach.TheVariants.{Registers, Store, Other}
use Rattle.cell_machine.specs.declared.effect.Note.TheVariants.{Nothing}
use Rattle.cell_machine.specs.Spe.{Spe, is_running}
use Rattle.cell_machine.specs.Effects.{effect_in, instr}
use Rattle.cell_machine.specs.Exec.{asks}
use Rattle.cell_machine.specs.Run.{Ran, next_of, spe_of}

-- loads and stores use the local store; channel instructions, halts and stops are other ones
abbrev pub reach_of_row : Row → Reach
reach_of_row Lqd = Store
reach_of_row Lqx = Store
reach_of_row Lqa = Store
reach_of_row Lqr = Store
reach_of_row Stqd = Store
reach_of_row Stqx = Store
reach_of_row Stqa = Store
reach_of_row Stqr = Store
reach_of_row Heq = Other
reach_of_row Heqi = Other
reach_of_row Hgt = Other
reach_of_row Hgti = Other
reach_of_row Hlgt = Other
reach_of_row Hlgti = Other
reach_of_row Stop = Other
reach_of_row Rdch = Other
reach_of_row Rchcnt = Other
reach_of_row Wrch = Other
reach_of_row row = Registers

-- the reach of an instruction, if there is one
abbrev pub reach_of : Option Instr → Reach
reach_of i = option_map_or (λ (i : Instr). reach_of_row i.row) i Other

-- the reach of the next instruction of P, if P runs and has one
abbrev pub reach : Spe → Reach
reach P = if is_running P.status then reach_of (instr P) else Other

-- the same, `Other` once the budget is spent
abbrev pub reach_in : Ran → ℕ → Reach
reach_in m p = if nat_lt (length m.steps) m.setup.budget then option_map_or reach (spe_of m p) Other else Other

-- the next instruction of processor p is allowed and asks for no channel, its effect has no note, and it reads or writes bytes exactly if `bytes` is true
pub record IsPlain (m : Ran) (p : ℕ) (bytes : Bool) : Type 0 where
  pub allowed : IsSome (next_of m (Exec p))
  pub asks : IsSomeAnd (spe_of m p) (λ P. asks P ≡ None)
  pub effect : IsSomeAnd (effect_in m (Exec p)) (λ e. (e.note ≡ Nothing) × (not (e.reads.len == 0 && e.writes.len == 0) ≡ bytes))

-- an instruction with the reach Registers or Store is plain
abbrev pub HasReach : Reach → Ran → ℕ → Type 0
HasReach Registers m p = IsPlain m p false
HasReach Store m p = IsPlain m p true
HasReach Other m p = Unit {0}
