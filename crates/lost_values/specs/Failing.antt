-- PUTLLC commands that fail.
use Rattle.std.specs.Prelude.{◌≡◌, ℕ, IsSomeAnd, slice_get}
use Rattle.cell_machine.specs.Atomic.{Lost, fate}
use Rattle.cell_machine.specs.Run.{Ran, state_of}
use Rattle.cell_machine.specs.State.{State}

-- the atomic command of processor p is a PUTLLC whose reservation is lost
abbrev pub FailsIn : State → ℕ → Type 0
FailsIn M p = IsSomeAnd (slice_get M.spes p) (λ P. IsSomeAnd P.channels.slot (λ a. fate M.memory P a ≡ Lost))

abbrev pub Fails : Ran → ℕ → Type 0
Fails m p = IsSomeAnd (state_of m) (λ M. FailsIn M p)
