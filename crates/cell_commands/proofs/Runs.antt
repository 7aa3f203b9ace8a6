-- A run that has ended, and what it prints.
use Rattle.std.proofs.Common.{◌≡◌, ℕ, ◌≤◌, List, ◌++◌, length, Some, refl, sym, subst, ◌∙◌, ap}
use Rattle.std.specs.Prelude.{Option, None, IsSomeAnd}
use Rattle.cell_base.specs.declared.steps.Step.{Step}
use Rattle.cell_base.specs.declared.format.Format.TheVariants.{Two}
use Rattle.cell_base.specs.Records.{spelling, AreSteps}
use Rattle.cell_machine.specs.declared.status.End.{End}
use Rattle.cell_machine.specs.State.{State}
use Rattle.cell_machine.specs.Opening.{Opening}
use Rattle.cell_machine.specs.Run.{Ran, IsRun, state_of, IsEnd, HasEnd}
use Rattle.cell_machine.proofs.Runs.{ends_once}
use Rattle.cell_report.specs.States.{states_of}
use Rattle.cell_commands.specs.declared.fault.Status.{Status}
use Rattle.cell_commands.specs.declared.fault.Status.TheVariants.{Done}
use Rattle.cell_commands.specs.Task.{Work, run_of}
use Rattle.cell_commands.specs.Checks.{TellsEnd}
use Rattle.cell_commands.specs.Output.{Writes}
use Rattle.cell_commands.specs.Answer.{Sinks, Ends}
use Rattle.cell_commands.specs.Runs.{KeepsLaws, PrintsRun, PrintsSteps}
use Rattle.cell_commands.proofs.Checks.{tells_end}
use Rattle.cell_commands.proofs.Lengths.{both-short}

-- What holds of the last state and the end word of a run that has ended: from there Q is come to.
module _ (m : Ran) (P : State → Option End → Type 0) (Q : Type 0) (go : (last : State) (end : End) → state_of m ≡ Some last → IsEnd last m.setup.budget (Some end) → P last (Some end) → Q) where
  with-end : HasEnd m → (M : State) (e : Option End) → state_of m ≡ Some M → IsEnd M m.setup.budget e → P M e → Q
  with-end ended M None stands is holds = absurd (ends_once m (subst (λ o. IsSomeAnd o (λ N. IsEnd N m.setup.budget None)) (sym stands) is) ended)
  with-end ended M (Some end) stands is holds = go M end stands is holds

  with-state : HasEnd m → (o : Option State) → state_of m ≡ o → IsSomeAnd o (λ M. (e : Option End) × IsEnd M m.setup.budget e × P M e) → Q
  with-state ended None stands is = absurd is
  with-state ended (Some M) stands is = with-end ended M is.0 stands is.1 is.2

  pub from_end : HasEnd m → IsSomeAnd (state_of m) (λ M. (e : Option End) × IsEnd M m.setup.budget e × P M e) → Q
  from_end ended is = with-state ended (state_of m) refl is

-- the two texts that the code made of a machine
pub prints_steps : (m : Ran) (steps : List Step) (record_items states_items first second : List ℕ) → steps ≡ m.steps → IsRun m.setup m.steps → KeepsLaws m → AreSteps m.steps
    → length states_items ≤ 700000 → record_items ≡ spelling Two steps → IsSomeAnd (state_of m) (λ M. (e : Option End) × IsEnd M m.setup.budget e × (states_items ≡ states_of M m.setup.shows e))
    → first ≡ record_items → second ≡ states_items → PrintsSteps m (first ++ second)
prints_steps m steps record_items states_items first second made run laws recorded small a b first_is second_is =
    let spelled : first ≡ spelling Two m.steps = first_is ∙ a ∙ ap (spelling Two) made in
    record {
      run = run;
      laws = laws;
      recorded = recorded;
      short = both-short m.steps first second recorded spelled (subst (λ t. length t ≤ 700000) (sym second_is) small);
      states = second;
      tells = subst (TellsEnd m) (sym second_is) (tells_end m states_items b);
      printed = ap (λ t. t ++ second) spelled;
    }

-- of a run that has ended they are those of its end
pub prints_run : (m : Ran) (text : List ℕ) → HasEnd m → PrintsSteps m text → PrintsRun m.setup text
prints_run m text ended p = on p.tells.end p.tells.ended p.tells.told
  where
    last : State
    last = p.tells.last

    on : (e : Option End) → IsEnd last m.setup.budget e → p.states ≡ states_of last m.setup.shows e → PrintsRun m.setup text
    on None is told = absurd (ends_once m (subst (λ o. IsSomeAnd o (λ N. IsEnd N m.setup.budget None)) (sym p.tells.there) is) ended)
    on (Some end) is told = record {
      run = record { steps = m.steps; last = last; end = end; replayed = p.tells.there; within = p.run.1; ended = is };
      laws = p.laws;
      recorded = p.recorded;
      short = p.short;
      printed = p.printed ∙ ap (λ t. spelling Two m.steps ++ t) told;
    }

-- so ends the work to run its setup
pub run_ends : (S : Opening) (m : Ran) (before after : Sinks) (status : Status) → m.setup ≡ S → HasEnd m → ((work : Work) → ((text : List ℕ) → PrintsSteps m text → Writes work Done text) → Ends work before after status) → Ends (run_of S) before after status
run_ends S m before after status same ended h = h (run_of S) (λ text p. subst (λ T. PrintsRun T text) same (prints_run m text ended p))
