-- What went out.
use Rattle.std.specs.Prelude.{ℕ, ◌≡◌, List, ◌++◌, Option, Some, None}
use Rattle.cell_io.specs.Store.{AddsPrefix}
use Rattle.race_check.specs.declared.check.Verdict.TheVariants.{Accepted, Race as Racing}
use Rattle.cell_commands.specs.declared.fault.Status.{Status}
use Rattle.cell_commands.specs.declared.fault.Status.TheVariants.{Done, Race}
use Rattle.cell_commands.specs.Task.{Work, run_of, text_of, verdict_of, gen_of, reordering_of}
use Rattle.cell_commands.specs.Runs.{PrintsRun}
use Rattle.cell_commands.specs.Verdicts.{IsAccepted, IsRaced}
use Rattle.cell_commands.specs.Summaries.{SummarizesRun}
use Rattle.cell_commands.specs.Reordered.{PrintsReordering, IsUnsettled}

-- the sink took the whole text
abbrev pub Took : Option (List ℕ) → Option (List ℕ) → List ℕ → Type 0
Took (Some old) new text = new ≡ Some (old ++ text)
Took None new text = new ≡ None

-- the sink took a prefix of it
abbrev pub TookPart : Option (List ℕ) → Option (List ℕ) → List ℕ → Type 0
TookPart (Some old) new text = (taken : List ℕ) × (new ≡ Some taken) × AddsPrefix old text taken
TookPart None new text = new ≡ None

-- the work may end with this status and this text
abbrev pub Writes : Work → Status → List ℕ → Type 0
Writes (run_of setup) Done text = PrintsRun setup text
Writes (text_of t) Done text = text ≡ t
Writes (verdict_of m) Done text = IsAccepted m text
Writes (verdict_of m) (Race i j) text = IsRaced m i j text
Writes (gen_of n) Done text = SummarizesRun n Accepted text
Writes (gen_of n) (Race i j) text = SummarizesRun n (Racing i j) text
Writes (reordering_of m n) Done text = PrintsReordering m n text
Writes (reordering_of m n) (Race i j) text = IsRaced m i j text
Writes work status text = ⊥

-- the work is a run to reorder that has no race and isn't settled
abbrev pub LacksOrders : Work → Type 0
LacksOrders (reordering_of m n) = IsUnsettled m
LacksOrders work = ⊥
