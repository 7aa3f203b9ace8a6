-- A verdict that was found, and what is written of it.
use Rattle.std.proofs.Common.{◌≡◌, ℕ, List, refl, sym, ◌∙◌, subst, arith}
use Rattle.std.specs.Prelude.{Option}
use Rattle.cell_machine.specs.Run.{Ran}
use Rattle.cell_machine.proofs.Same.{some_same}
use Rattle.race_order.specs.Trace.{Trace}
use Rattle.race_check.specs.declared.check.Verdict.{Verdict}
use Rattle.race_check.specs.declared.check.Verdict.TheVariants.{Accepted, Race as Racing}
use Rattle.race_check.specs.Races.{Race as Racy, IsVerdict}
use Rattle.race_check.specs.Reorderings.{EveryReorderingAgrees}
use Rattle.race_check.proofs.Prefixes.{access-within}
use Rattle.cell_report.specs.Verdicts.{verdict_lines, NamesSteps}
use Rattle.cell_commands.specs.declared.fault.Status.{Status}
use Rattle.cell_commands.specs.declared.fault.Fault.TheVariants.{WriteFault, NotSettled, Memory}
use Rattle.cell_commands.specs.declared.fault.Status.TheVariants.{Done, Race, Refused}
use Rattle.cell_commands.specs.Task.{verdict_of, reordering_of}
use Rattle.cell_commands.specs.Output.{TookPart}
use Rattle.cell_commands.specs.Answer.{Sinks, Ends, WrotePart}

-- a verdict that names two steps names steps of the run
pub names-steps : (m : Ran) (v : Verdict) → IsVerdict m v → NamesSteps m.steps v
names-steps m Accepted is = tt
names-steps m (Racing i j) is =
    let race = is.so.holds in
    let low = access-within m is.trace is.is j race.conflict.second race.conflict.second_at in
    (omega (arith, race.below, low), low)

-- a part of its text went out
pub wrote_part : (m : Ran) (v : Verdict) (text : List ℕ) (old new : Option (List ℕ)) → IsVerdict m v → (v ≡ Accepted → EveryReorderingAgrees m) → text ≡ verdict_lines m.steps v
    → TookPart old new text → WrotePart (verdict_of m) old new
wrote_part m Accepted text old new is agree says part = (Done, text, record { no_race = is; agree = agree refl; says = says }, part)
wrote_part m (Racing i j) text old new is agree says part = (Race i j, text, record { least = is; says = says }, part)

-- a run that has no race has none
pub one-verdict : (m : Ran) (i j : ℕ) → IsVerdict m Accepted → IsVerdict m (Racing i j) → ⊥
one-verdict m i j none least =
    let same : least.trace ≡ none.trace = some_same least.trace none.trace (sym least.is ∙ none.is) in
    none.so i j (subst (λ (t : Trace). Racy t i j) same least.so.holds)

-- the verdict that a run has a race ends its reordering too
raced-reordering : (m : Ran) (n i j : ℕ) (before after : Sinks) (status : Status) → IsVerdict m (Racing i j) → Ends (verdict_of m) before after status → Ends (reordering_of m n) before after status
raced-reordering m n i j before after Done raced e = absurd (one-verdict m i j e.1.no_race raced)
raced-reordering m n i j before after (Race k l) raced e = e
raced-reordering m n i j before after (Refused Memory) raced e = e
raced-reordering m n i j before after (Refused WriteFault) raced e = (e.0, part e.1)
  where
    part : WrotePart (verdict_of m) before.taken after.taken → WrotePart (reordering_of m n) before.taken after.taken
    part (Done, text, is, took) = absurd (one-verdict m i j is.no_race raced)
    part (Race k l, text, is, took) = (Race k l, text, is, took)
    part (Refused fault, text, is, took) = absurd is
raced-reordering m n i j before after (Refused NotSettled) raced e = absurd e.0
raced-reordering m n i j before after (Refused fault) raced e = absurd e

pub raced_reordering : (m : Ran) (n : ℕ) (v : Verdict) (before after : Sinks) (status : Status) → (v ≡ Accepted → ⊥) → IsVerdict m v → Ends (verdict_of m) before after status → Ends (reordering_of m n) before after status
raced_reordering m n Accepted before after status races is e = absurd (races refl)
raced_reordering m n (Racing i j) before after status races is e = raced-reordering m n i j before after status is e
