-- Processors that are known to be blocked.
use Rattle.std.specs.Prelude.{◌≡◌, ◌≢◌, ℕ, true, List, Some, None, slice_get}
use Rattle.cell_base.specs.Bits.{has_bit}
use Rattle.cell_machine.specs.declared.processor.Processor.{Processor}
use Rattle.cell_machine.specs.declared.blocked.Blocked.{Blocked}
use Rattle.cell_machine.specs.Spe.{Spe}
use Rattle.cell_machine.specs.Exec.{exec}
use Rattle.cell_machine.specs.Shows.{ShowsSpe}

-- the next instruction isn't allowed, in a memory of any size
abbrev pub IsBlocked : Processor → Type 0
IsBlocked c = (lines : ℕ) (P : Spe) → ShowsSpe c P → exec lines P ≡ None

-- each processor that is marked is blocked
abbrev pub AreBlocked : Blocked → List Processor → Type 0
AreBlocked w processors = (p : ℕ) (c : Processor) → has_bit w.bits p ≡ true → slice_get processors p ≡ Some c → IsBlocked c

-- all but one are as before
abbrev pub AreBut : ℕ → List Processor → List Processor → Type 0
AreBut spe before processors = (p : ℕ) → spe ≢ p → slice_get processors p ≡ slice_get before p
