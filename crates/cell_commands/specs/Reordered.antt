-- A run that is made again in another order.
use Rattle.std.specs.Prelude.{ℕ, List}
use Rattle.cell_machine.specs.Run.{Ran}
use Rattle.race_check.specs.declared.check.Verdict.TheVariants.{Accepted}
use Rattle.race_check.specs.Races.{IsVerdict}
use Rattle.reorder_laws.specs.Settled.{IsSettled}
use Rattle.run_permute.specs.Nth.{EndsAlike, IsReordered}
use Rattle.cell_commands.specs.declared.fault.Fault.{Fault}
use Rattle.cell_commands.specs.declared.fault.Fault.TheVariants.{NotSettled, Memory}
use Rattle.cell_commands.specs.Checks.{TellsEnd}
use Rattle.cell_commands.specs.Runs.{PrintsSteps}

-- No two steps of the run race, but it isn't settled.
pub record IsUnsettled (m : Ran) : Type 0 where
  pub no_race : IsVerdict m Accepted
  pub not_settled : ¬ (IsSettled m)

-- it isn't settled, or memory ran out
abbrev pub IsUnsettledOrMemory : Ran → Fault → Type 0
IsUnsettledOrMemory m NotSettled = ¬ (IsSettled m)
IsUnsettledOrMemory m Memory = Unit {0}
IsUnsettledOrMemory m fault = ⊥

-- No two steps of the run race, and it is settled. Its steps in the order of the number are a run from the same setup, and the text has the
-- record of that run and then its states. It ends as the run itself does, and the text of its states is that of the states that the run itself
-- ends in, with the same end word.
pub record PrintsReordering (m : Ran) (n : ℕ) (text : List ℕ) : Type 0 where
  pub no_race : IsVerdict m Accepted
  pub settled : IsSettled m
  pub again : Ran
  pub reordered : IsReordered m n again
  pub prints : PrintsSteps again text
  pub same_end : EndsAlike m again
  pub same_states : TellsEnd m prints.states
