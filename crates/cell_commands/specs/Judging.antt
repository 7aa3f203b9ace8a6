-- A run that is judged as it is made.
use Rattle.std.specs.Prelude.{◌≡◌, ◌≤◌, Bool, List, length, take, Option, Some, None, is_some}
use Rattle.cell_base.specs.declared.steps.Step.{Step}
use Rattle.cell_machine.specs.Opening.{Opening}
use Rattle.cell_machine.specs.Run.{Ran}
use Rattle.race_check.specs.declared.check.Verdict.{Verdict}
use Rattle.race_check.specs.declared.check.Verdict.TheVariants.{Accepted}
use Rattle.race_check.specs.declared.search.Search.{Search}
use Rattle.race_check.specs.Races.{IsVerdict}
use Rattle.race_check.specs.Reorderings.{EveryReorderingAgrees}
use Rattle.race_check.specs.Searches.{IsClear, run_of}
use Rattle.run_record.specs.Replayed.{IsRefusedAt}
use Rattle.run_permute.specs.Settlings.{Follows, IsSettledSoFar}
use Rattle.run_permute.specs.Gathered.{Gathers}
use Rattle.cell_commands.specs.declared.looks.Looks.{Looks}
use Rattle.cell_commands.specs.declared.judging.Judged.{Judged}
use Rattle.cell_commands.specs.declared.fault.Fault.{Fault}
use Rattle.cell_commands.specs.declared.fault.Fault.TheVariants.{NotARun, Memory}

-- they tell of this run whether it is settled, and where it is so far, what its steps need
pub record LooksAt (m : Ran) (l : Looks) : Type 0 where
  pub follows : Follows m l.settling
  pub gathers : IsSettledSoFar m → Gathers m l.needs

-- so do these, if there are any
abbrev pub MayLookAt : Ran → Option Looks → Type 0
MayLookAt m None = Unit {0}
MayLookAt m (Some l) = LooksAt m l

-- the search has made the first of these steps, or all of them, where it found no race; and this is the verdict on those
pub record IsSearched (setup : Opening) (steps : List Step) (s : Search) (v : Verdict) : Type 0 where
  pub within : length (run_of s).steps ≤ length steps
  pub made : run_of s ≡ record { setup = setup; steps = take (length (run_of s).steps) steps }
  pub verdict : IsVerdict (run_of s) v
  pub clear : v ≡ Accepted → IsClear s
  pub whole : v ≡ Accepted → length (run_of s).steps ≡ length steps

-- one of the steps is refused, or memory ran out
abbrev pub StopsOrMemory : Opening → List Step → Fault → Type 0
StopsOrMemory setup steps (NotARun at) = IsRefusedAt setup steps at
StopsOrMemory setup steps Memory = Unit {0}
StopsOrMemory setup steps fault = ⊥

-- the verdict on the machine's run; where that has no race, every reordering of it agrees; and what was looked at, where it is to be reordered
pub record IsJudged (reorders : Bool) (j : Judged) : Type 0 where
  pub verdict : IsVerdict j.machine j.verdict
  pub agree : j.verdict ≡ Accepted → EveryReorderingAgrees j.machine
  pub looks : j.verdict ≡ Accepted → MayLookAt j.machine j.looks
  pub some : is_some j.looks ≡ reorders
