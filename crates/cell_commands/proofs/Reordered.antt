-- A run that is made again in another order, and what is written of it.
use Rattle.std.proofs.Common.{◌≡◌, ℕ, List}
use Rattle.cell_machine.specs.Run.{Ran, IsRun}
use Rattle.race_check.specs.declared.check.Verdict.TheVariants.{Accepted}
use Rattle.race_check.specs.Races.{IsVerdict}
use Rattle.reorder_laws.specs.Settled.{IsSettled}
use Rattle.run_permute.specs.Nth.{EndsAlike, IsReordered}
use Rattle.cell_commands.specs.declared.fault.Fault.{Fault}
use Rattle.cell_commands.specs.declared.fault.Fault.TheVariants.{NotSettled, Memory}
use Rattle.cell_commands.specs.declared.fault.Status.TheVariants.{Refused}
use Rattle.cell_commands.specs.Task.{reordering_of}
use Rattle.cell_commands.specs.Runs.{PrintsSteps}
use Rattle.cell_commands.specs.Reordered.{IsUnsettledOrMemory, PrintsReordering}
use Rattle.cell_commands.specs.Answer.{Sinks, Ends}
use Rattle.cell_commands.proofs.AlikeTexts.{same_states}

-- what is printed of it
pub prints_reordering : (m : Ran) (n : ℕ) (x : Ran) (text : List ℕ) → IsRun m.setup m.steps → IsVerdict m Accepted → IsSettled m → IsReordered m n x → EndsAlike m x → PrintsSteps x text → PrintsReordering m n text
prints_reordering m n x text run accepted settled reordered alike printed = record {
  no_race = accepted;
  settled = settled;
  again = x;
  reordered = reordered;
  prints = printed;
  same_end = alike;
  same_states = same_states m x printed.states run reordered.setup alike printed.tells;
}

-- nothing is printed of a run that isn't settled
pub refused_reordering : (m : Ran) (n : ℕ) (before after : Sinks) (fault : Fault) → IsVerdict m Accepted → IsUnsettledOrMemory m fault → after ≡ before → Ends (reordering_of m n) before after (Refused fault)
refused_reordering m n before after NotSettled accepted refused same = (record { no_race = accepted; not_settled = refused }, same)
refused_reordering m n before after Memory accepted refused same = same
refused_reordering m n before after fault accepted refused same = absurd refused
