-- What `gen` says of the machine that it ran.
use Rattle.std.specs.Prelude.{ℕ, ◌≡◌, List, Some}
use Rattle.cell_gen.specs.Generated.{generated}
use Rattle.race_check.specs.declared.check.Verdict.{Verdict}
use Rattle.race_check.specs.declared.check.Verdict.TheVariants.{Accepted}
use Rattle.race_check.specs.Races.{IsVerdict}
use Rattle.race_check.specs.Reorderings.{EveryReorderingAgrees}
use Rattle.cell_report.specs.Summaries.{summary_of}
use Rattle.cell_commands.specs.Runs.{EndedRun, KeepsLaws, ran}

-- One run of the machine that is generated for n, which keeps the laws; this is the verdict on it, where it has no race every reordering of it
-- agrees, and the text says so.
pub record SummarizesRun (n : ℕ) (v : Verdict) (text : List ℕ) : Type 0 where
  pub run : EndedRun (generated n)
  pub laws : KeepsLaws (ran run)
  pub verdict : IsVerdict (ran run) v
  pub agree : v ≡ Accepted → EveryReorderingAgrees (ran run)
  pub says : text ≡ summary_of n (Some run.end) run.steps run.last.memory.bytes v
