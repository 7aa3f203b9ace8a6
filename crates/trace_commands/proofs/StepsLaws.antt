-- Steps that are made or refused, and what is told of their runs.
use Rattle.std.proofs.Common.{◌≡◌, ◌∙◌, ℕ, ◌<◌, ◌≤◌, List, ◌∷◌, ◌++◌, length, take, get_or, Option, Some, None, refl, sym, ap, subst, append_assoc}
use Rattle.std.specs.Prelude.{IsSome}
use Rattle.cell_base.specs.declared.steps.Step.{Step}
use Rattle.cell_machine.specs.Opening.{Opening}
use Rattle.cell_machine.specs.Run.{Ran, IsRun, next_of}
use Rattle.run_record.specs.Replayed.{IsRefusedAt}
use Rattle.run_record.proofs.Runs.{run_went_on}
use Rattle.cell_trace.specs.Effects.{StopsAt}
use Rattle.cell_trace.proofs.Lemmas.{stops}
use Rattle.trace_commands.specs.declared.fault.Fault.{Fault}
use Rattle.trace_commands.specs.declared.fault.Fault.TheVariants.{Input, Memory}
use Rattle.cell_commands.specs.declared.fault.Fault.TheVariants.{NotARun}
use Rattle.trace_commands.specs.Choices.{start}
use Rattle.trace_commands.specs.Files.{StepsRefuse}
use Rattle.trace_commands.specs.Told.{RefusesNext, RefusesRest}

pub none_some : {X : Type 0} (o : Option X) → o ≡ None → IsSome o → ⊥
none_some None e h = absurd (cc)
none_some (Some x) e h = absurd (cc)

-- a machine that stopped was refused there
pub stopped : (m n : Ran) (steps : List Step) (s : Step) → StopsAt m steps n s → IsRun n.setup n.steps → IsRefusedAt m.setup (m.steps ++ steps) (length n.steps)
stopped m n steps s h run =
    let is : n ≡ record { setup = m.setup; steps = m.steps ++ h.before } = h.made in
    record {
      before = m.steps ++ h.before;
      step = s;
      after = h.after;
      parts = ap (λ (t : List Step). m.steps ++ t) h.parts ∙ sym (append_assoc m.steps h.before (s ∷ h.after));
      counted = ap (λ (x : Ran). length x.steps) is;
      run = subst (λ (x : Ran). IsRun x.setup x.steps) is run;
      no_run = λ on. none_some (next_of n s) h.refused (subst (λ (x : Ran). IsSome (next_of x s)) (sym is) (run_went_on m.setup (m.steps ++ h.before) s on));
    }

-- the refusal that a machine that stopped tells
pub refuses_rest : (m n : Ran) (steps : List Step) (s : Step) (fault : Fault) → StopsAt m steps n s → IsRun n.setup n.steps → fault ≡ Input (NotARun (length n.steps)) → RefusesRest m steps fault
refuses_rest m n steps s fault h run is = subst (RefusesRest m steps) (sym is) (stopped m n steps s h run)

-- of all steps, and of the first so many
pub refuses_all : (setup : Opening) (steps : List Step) (fault : Fault) → RefusesRest (start setup) steps fault → StepsRefuse setup steps None fault
refuses_all setup steps (Input (NotARun at)) r = (tt, r)
refuses_all setup steps Memory r = tt
refuses_all setup steps fault r = absurd r

pub refuses_first : (setup : Opening) (steps first : List Step) (count : ℕ) (fault : Fault) → first ≡ take count steps → count ≤ length steps → RefusesRest (start setup) first fault → StepsRefuse setup steps (Some count) fault
refuses_first setup steps first count (Input (NotARun at)) is enough r = (enough, subst (λ (t : List Step). IsRefusedAt setup t at) is r)
refuses_first setup steps first count Memory is enough r = tt
refuses_first setup steps first count fault is enough r = absurd r

-- where the next of these steps is refused behind those that were made
pub next_refused : (m l : Ran) (steps : List Step) (i : ℕ) (s d : Step) (fault : Fault) → i < length steps → s ≡ get_or steps i d → l ≡ record m { steps = m.steps ++ take i steps } → RefusesNext l s fault → RefusesRest m steps fault
next_refused m l steps i s d (Input (NotARun at)) lt same made r = subst (IsRefusedAt m.setup (m.steps ++ steps)) (sym r.0) (stopped m l steps s (stops m l l steps i s d lt same made refl r.2) r.1)
next_refused m l steps i s d Memory lt same made r = tt
next_refused m l steps i s d fault lt same made r = absurd r
