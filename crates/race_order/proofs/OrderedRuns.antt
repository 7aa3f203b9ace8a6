-- A run with one more step has a trace with one more event.
use Rattle.std.proofs.Common.{◌≡◌, suc, ◌+◌, ◌≤◌, ◌<◌, ◌^◌, List, [], ◌∷◌, ◌++◌, length, refl, sym, ◌∙◌, ap, subst, arith}
use Rattle.std.specs.Prelude.{Result, Ok, Err, IfOk, Option, Some, None, is_some, true, false, Bool, nat_lt, option_and_then, if◌then◌else◌}
use Rattle.std.proofs.lemmas.Bool.Decides.{nat_tests}
use Rattle.cell_base.specs.declared.steps.Step.{Step}
use Rattle.cell_machine.specs.declared.effect.Effect.{Effect}
use Rattle.cell_machine.specs.State.{State}
use Rattle.cell_machine.specs.Next.{next}
use Rattle.cell_machine.specs.Opening.{opening}
use Rattle.cell_machine.specs.Run.{Ran, replay, state_of}
use Rattle.cell_machine.specs.Effects.{effect_of, effect_in}
use Rattle.cell_machine.specs.Traces.{Event, event, trace_from, trace_of}
use Rattle.cell_machine.proofs.EffectsDefined.{has-effects}
use Rattle.cell_machine.proofs.Same.{some_same}
use Rattle.cell_machine.proofs.StepBytes.{of_map, of_then}
use Rattle.race_order.specs.Trace.{Trace}
use Rattle.race_order.specs.Orderly.{MayCome}
use Rattle.race_order.specs.Premises.{QueueMay}
use Rattle.race_order.specs.Stamps.{event_of}
use Rattle.race_order.specs.Standing.{StandsFor}
use Rattle.race_order.specs.OrderedRuns.{OnTrace, StandsForRun}
use Rattle.race_order.specs.Told.{trace_in}
use Rattle.race_order.specs.declared.orderer.Orderer.{Orderer}
use Rattle.race_order.proofs.Runs.{may-follow}

there : {X : Type 0} (o : Option X) → is_some o ≡ true → (x : X) × (o ≡ Some x)
there None e = absurd (cc)
there (Some x) e = (x, refl)

-- a step that has an effect leads to a state
pub leads : (M : State) (s : Step) (e : Effect) → effect_of M s ≡ Some e → (N : State) × (next M s ≡ Some N)
leads M s e effect = there (next M s) (sym (has-effects M s) ∙ ap is_some effect)

one : (M : State) (s : Step) (e : Effect) → effect_of M s ≡ Some e → trace_from M (s ∷ []) ≡ Some (record { step = s; effect = e } ∷ [])
one M s e effect = let to = leads M s e effect in rw (effect, to.1) refl

pub trace-snoc : (M N : State) (steps : List Step) (events : List Event) (s : Step) (e : Effect) → trace_from M steps ≡ Some events → replay M steps ≡ Some N → effect_of N s ≡ Some e
    → trace_from M (steps ++ s ∷ []) ≡ Some (events ++ record { step = s; effect = e } ∷ [])
trace-snoc M N [] events s e h run effect =
    let at : M ≡ N = some_same M N run in
    subst (λ es. trace_from M (s ∷ []) ≡ Some (es ++ record { step = s; effect = e } ∷ [])) (some_same [] events h) (one M s e (ap (λ K. effect_of K s) at ∙ effect))
trace-snoc M N (x ∷ steps) events s e h run effect =
    of_then _ (event M x) events (λ es. trace_from M (x ∷ (steps ++ s ∷ [])) ≡ Some (es ++ record { step = s; effect = e } ∷ [])) h (λ told is later.
    of_then _ (next M x) events (λ es. trace_from M (x ∷ (steps ++ s ∷ [])) ≡ Some (es ++ record { step = s; effect = e } ∷ [])) later (λ K made rest.
    of_map (λ es. told ∷ es) (trace_from K steps) events (λ es. trace_from M (x ∷ (steps ++ s ∷ [])) ≡ Some (es ++ record { step = s; effect = e } ∷ [])) rest (λ more told_more.
    let on : replay K steps ≡ Some N = sym (ap (option_and_then (λ L. replay L steps)) made) ∙ run in
    rw (is, made, trace-snoc K N steps more s e told_more on effect) refl)))

pub trace-long : (M : State) (steps : List Step) (events : List Event) → trace_from M steps ≡ Some events → length events ≡ length steps
trace-long M [] events h = ap length (sym (some_same [] events h))
trace-long M (x ∷ steps) events h =
    of_then _ (event M x) events (λ es. length es ≡ length (x ∷ steps)) h (λ told is later.
    of_then _ (next M x) events (λ es. length es ≡ length (x ∷ steps)) later (λ K made rest.
    of_map (λ es. told ∷ es) (trace_from K steps) events (λ es. length es ≡ length (x ∷ steps)) rest (λ more told_more. ap suc (trace-long K steps more told_more))))

-- ---- one more step of a run

-- what an effect under the budget says
pub record Follows (m : Ran) (s : Step) (e : Effect) : Type 0 where
  pub state : State
  pub within : length m.steps < m.setup.budget
  pub at : state_of m ≡ Some state
  pub effect : effect_of state s ≡ Some e

pub follows : (m : Ran) (s : Step) (e : Effect) → effect_in m s ≡ Some e → Follows m s e
follows m s e h = on (nat_lt (length m.steps) m.setup.budget) refl h
  where
    on : (b : Bool) → nat_lt (length m.steps) m.setup.budget ≡ b → (if b then option_and_then (λ M. effect_of M s) (state_of m) else None) ≡ Some e → Follows m s e
    on true low is = of_then _ (state_of m) e (Follows m s) is (λ M at effect. record { state = M; within = grind (arith, nat_tests); at = at; effect = effect })
    on false low is = absurd (cc)

-- ---- what an orderer stands for

pub both : {T E : Type 0} (P Q R : T → Type 0) (r : Result T E) → IfOk r P → IfOk r Q → ((x : T) → P x → Q x → R x) → IfOk r R
both P Q R (Ok x) p q f = f x p q
both P Q R (Err e) p q f = tt

pub trace-is : (m : Ran) (trace : Trace) → trace_of m ≡ Some trace → trace_in m ≡ trace
unfolding trace_in
trace-is m trace h = rw h refl

-- what is so of its trace is so of this one
pub of-trace : (m : Ran) (P : Trace → Type 0) → OnTrace m P → (trace_of m ≡ Some (trace_in m)) × P (trace_in m)
of-trace m P t = let same = trace-is m t.trace t.is in (t.is ∙ ap Some (sym same), subst P (sym same) t.so)

pub run-told : (o : Orderer) (m : Ran) → StandsForRun o m → trace_of m ≡ Some (trace_in m)
run-told o m st = (of-trace m (StandsFor o) st.stands).0

pub run-stands : (o : Orderer) (m : Ran) → StandsForRun o m → StandsFor o (trace_in m)
run-stands o m st = (of-trace m (StandsFor o) st.stands).1

pub run-long : (o : Orderer) (m : Ran) → StandsForRun o m → length (trace_in m) ≡ length m.steps
run-long o m st = trace-long (opening m.setup) m.steps (trace_in m) (run-told o m st)

pub stands-first : (o : Orderer) (m : Ran) → m.steps ≡ [] → m.setup.budget ≤ 1000000 → StandsFor o [] → o.spes ≡ length m.setup.entries → StandsForRun o m
stands-first o m none few st spes =
    let empty : trace_of m ≡ Some [] = ap (trace_from (opening m.setup)) none in
    record { budget = few; spes = spes; stands = record { trace = []; is = empty; so = st } }

-- what is asked of the next event
pub record Next (o : Orderer) (m : Ran) (s : Step) (e : Effect) : Type 0 where
  pub may : MayCome o.spes (trace_in m) (event_of s e)
  pub queue : QueueMay (trace_in m) (event_of s e)
  pub room : length (trace_in m) + 1 < 2 ^ 32

pub next-may : (o : Orderer) (m : Ran) (s : Step) (e : Effect) → StandsForRun o m → effect_in m s ≡ Some e → Next o m s e
next-may o m s e st h =
    let f = follows m s e h in
    let to = leads f.state s e f.effect in
    let comes = may-follow m (trace_in m) f.state to.0 s e (run-told o m st) f.at to.1 f.effect in
    let long = run-long o m st in
    let few = st.budget in
    let low = f.within in
    record { may = subst (λ n. MayCome n (trace_in m) (record { step = s; effect = e })) (sym st.spes) comes.0; queue = comes.1; room = omega arith }

pub stands-next : (o after : Orderer) (m : Ran) (s : Step) (e : Effect) → StandsForRun o m → effect_in m s ≡ Some e → StandsFor after (trace_in m ++ event_of s e ∷ []) → after.spes ≡ o.spes
    → StandsForRun after (record m { steps = m.steps ++ s ∷ [] })
stands-next o after m s e st h made spes =
    let f = follows m s e h in
    let more : Ran = record m { steps = m.steps ++ s ∷ [] } in
    let run : trace_of more ≡ Some (trace_in m ++ event_of s e ∷ []) = trace-snoc (opening m.setup) f.state m.steps (trace_in m) s e (run-told o m st) f.at f.effect in
    record { budget = st.budget; spes = spes ∙ st.spes; stands = record { trace = trace_in m ++ event_of s e ∷ []; is = run; so = made } }
