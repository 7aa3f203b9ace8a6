-- The run of a generated machine, and what is written of it.
use Rattle.std.proofs.Common.{◌≡◌, ℕ, ◌<◌, Bool, true, false, cond, List, Some, Ok, Err, refl, sym, ap, subst, arith}
use Rattle.std.specs.Prelude.{Option, IsSomeAnd, nat_lt}
use Rattle.std.proofs.lemmas.Bool.Decides.{nat_tests}
use Rattle.cell_base.specs.declared.steps.Step.{Step}
use Rattle.cell_machine.specs.declared.status.End.{End}
use Rattle.cell_machine.specs.State.{State}
use Rattle.cell_machine.specs.Run.{Ran, IsRun, state_of, IsEnd, HasEnd}
use Rattle.cell_gen.specs.Generated.{generated}
use Rattle.race_check.specs.declared.check.Verdict.{Verdict}
use Rattle.race_check.specs.declared.check.Verdict.TheVariants.{Accepted, Race as Racing}
use Rattle.race_check.specs.Races.{IsVerdict}
use Rattle.race_check.specs.Reorderings.{EveryReorderingAgrees}
use Rattle.cell_report.specs.Summaries.{summary_of}
use Rattle.cell_gen.specs.declared.error.GenError.{GenError}
use Rattle.cell_gen.specs.declared.error.GenError.TheVariants as gen_error
use Rattle.cell_io.specs.Files.{File}
use Rattle.cell_io.specs.Store.{Ledger}
use Rattle.cell_commands.specs.declared.fault.Fault.TheVariants.{TooLarge}
use Rattle.cell_commands.specs.declared.fault.Status.{Status}
use Rattle.cell_commands.specs.declared.fault.Status.TheVariants.{Done, Race, Refused}
use Rattle.cell_commands.specs.Causes.{gen_fault_of}
use Rattle.cell_commands.specs.Course.{Settles}
use Rattle.cell_commands.specs.Forms.{gen_task}
use Rattle.cell_commands.specs.Code.{status_of}
use Rattle.cell_commands.specs.Task.{refuse, ready, gen_of}
use Rattle.cell_commands.specs.Output.{Took, TookPart}
use Rattle.cell_commands.specs.Answer.{Sinks, Ends, Answers, WrotePart}
use Rattle.cell_commands.specs.Runs.{KeepsLaws}
use Rattle.cell_commands.specs.Summaries.{SummarizesRun}
use Rattle.cell_commands.proofs.Runs.{from_end}
use Rattle.cell_commands.proofs.Steps.{answer_ended}

-- what was found of a run that has ended
pub record IsFound (n : ℕ) (v : Verdict) (text : List ℕ) (m : Ran) : Type 0 where
  pub run : IsRun m.setup m.steps
  pub laws : KeepsLaws m
  pub ended : HasEnd m
  pub verdict : IsVerdict m v
  pub agree : v ≡ Accepted → EveryReorderingAgrees m
  pub says : IsSomeAnd (state_of m) (λ M. (end : Option End) × IsEnd M m.setup.budget end × (text ≡ summary_of n end m.steps M.memory.bytes v))

module _ (n : ℕ) (v : Verdict) (text : List ℕ) where
  generated-run : (steps : List Step) → IsFound n v text (record { setup = generated n; steps = steps }) → SummarizesRun n v text
  generated-run steps found = from_end (record { setup = generated n; steps = steps }) (λ M end. text ≡ summary_of n end steps M.memory.bytes v) (SummarizesRun n v text) summarized found.ended found.says
    where
      summarized : (last : State) (end : End) → state_of (record { setup = generated n; steps = steps }) ≡ Some last → IsEnd last (generated n).budget (Some end)
          → text ≡ summary_of n (Some end) steps last.memory.bytes v → SummarizesRun n v text
      summarized last end stands is says = record {
        run = record { steps = steps; last = last; end = end; replayed = stands; within = found.run.1; ended = is };
        laws = found.laws;
        verdict = found.verdict;
        agree = found.agree;
        says = says;
      }

  -- a machine with the generated setup
  pub summarizes : (m : Ran) → m.setup ≡ generated n → IsFound n v text m → SummarizesRun n v text
  summarizes m same found = generated-run m.steps (subst (λ r. IsFound n v text r) (ap (λ setup. record { setup = setup; steps = m.steps }) same) found)

-- its text, which the code has as a slice
pub summarizes_own : (n : ℕ) (v : Verdict) (items text : List ℕ) (m : Ran) → text ≡ items → m.setup ≡ generated n → IsFound n v items m → SummarizesRun n v text
summarizes_own n v items text m same setup found = subst (λ t. SummarizesRun n v t) (sym same) (summarizes n v items m setup found)

-- it went out
pub ends_summary : (n : ℕ) (v : Verdict) (text : List ℕ) (before after : Sinks) → SummarizesRun n v text → Took before.taken after.taken text → Ends (gen_of n) before after (status_of v)
ends_summary n Accepted text before after is took = (text, is, took)
ends_summary n (Racing i j) text before after is took = (text, is, took)

-- a part of it went out
pub wrote_summary_part : (n : ℕ) (v : Verdict) (text : List ℕ) (old new : Option (List ℕ)) → SummarizesRun n v text → TookPart old new text → WrotePart (gen_of n) old new
wrote_summary_part n Accepted text old new is part = (Done, text, is, part)
wrote_summary_part n (Racing i j) text old new is part = (Race i j, text, is, part)

-- ---- the answer to the words

module _ (files : List File) (n : ℕ) where
  -- a number that isn't above 64 comes to a run
  gen-is : (64 < n → ⊥) → (b : Bool) → nat_lt 64 n ≡ b → Settles files (cond b (refuse (TooLarge n)) (ready (gen_of n))) (Ok (gen_of n))
  gen-is within true is = absurd (within (grind (arith, nat_tests, is)))
  gen-is within false is = refl

  pub gen_ended : (old new : Ledger) (before after : Sinks) (status : Status) → (64 < n → ⊥) → Ends (gen_of n) before after status → Answers files (gen_task n) old new before after status
  gen_ended old new before after status within e = answer_ended files (gen_task n) (gen_of n) old new before after status (gen-is within (nat_lt 64 n) refl) e

  -- one above it is refused
  gen-large : 64 < n → Settles files (gen_task n) (Err (TooLarge n))
  gen-large large = let is : nat_lt 64 n ≡ true = grind (arith, nat_tests, large) in subst (λ b. Settles files (cond b (refuse (TooLarge n)) (ready (gen_of n))) (Err (TooLarge n))) (sym is) refl

  pub gen_refused : (old new : Ledger) (before after : Sinks) (error : GenError) → ((m : ℕ) → error ≡ gen_error.TooLarge m → (64 < n) × (m ≡ n)) → Answers files (gen_task n) old new before after (Refused (gen_fault_of error))
  gen_refused old new before after (gen_error.TooLarge m) cause =
      let is = cause m refl in
      subst (λ k. Settles files (gen_task n) (Err (TooLarge k))) (sym is.1) (gen-large is.0)
  gen_refused old new before after gen_error.Memory cause = tt
