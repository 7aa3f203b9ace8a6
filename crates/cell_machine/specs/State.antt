-- The state of the written machine.
use Rattle.std.specs.Prelude.{ℕ, List, slice_set}
use Rattle.cell_base.specs.declared.steps.Step.{Step}
use Rattle.cell_host.specs.Script.{Progress}
use Rattle.cell_machine.specs.Spe.{Spe}
use Rattle.cell_machine.specs.Memory.{MainMemory}

pub record State : Type 0 where
  pub spes : List Spe
  pub memory : MainMemory
  pub host : Progress  -- the host script, how many of its actions were done, and the values taken
  pub steps : List Step  -- the record: the steps made so far, in their order

-- M with this in place of its processor p
abbrev pub with_spe : State → ℕ → Spe → State
with_spe M p P = record M { spes = slice_set M.spes p P }
