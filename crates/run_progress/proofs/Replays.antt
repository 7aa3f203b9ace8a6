-- A run that is made again: its steps, its trace, and the next step.
use Rattle.std.proofs.Common.{◌≡◌, ℕ, zero, suc, ◌+◌, ◌*◌, ◌<◌, ◌≤◌, Bool, List, [], ◌∷◌, ◌++◌, length, map, take, true, refl, sym, ap, ◌∙◌, subst, arith, Option, Some, None}
use Rattle.std.specs.Prelude.{nat_lt, slice_get, is_some, IsSome, Result, Ok, Err, IfOk, cond, false, option_and_then}
use Rattle.std.proofs.lemmas.Bool.{lt-ltb}
use Rattle.std.proofs.lemmas.List.{length-take-le, take_all, take_more}
use Rattle.std.proofs.lemmas.Option.{get_or_from_slice_get, slice_get_within}
use Rattle.cell_base.specs.declared.steps.Step.{Step}
use Rattle.cell_machine.specs.declared.effect.Effect.{Effect}
use Rattle.cell_machine.specs.State.{State}
use Rattle.cell_machine.specs.Next.{next}
use Rattle.cell_machine.specs.Opening.{opening}
use Rattle.cell_machine.specs.Limits.{IsOpening}
use Rattle.cell_machine.specs.Run.{Ran, IsRun, next_of, replay, state_of}
use Rattle.cell_machine.specs.Effects.{effect_in, effect_of}
use Rattle.cell_machine.specs.Sound.{Fits}
use Rattle.cell_machine.specs.Traces.{trace_from, trace_of}
use Rattle.cell_machine.proofs.EffectsDefined.{has-effects}
use Rattle.cell_machine.proofs.EffectsFitted.{effects-fit}
use Rattle.cell_machine.proofs.Same.{some_same}
use Rattle.cell_machine.proofs.Sounds.{runs-are-sound}
use Rattle.cell_machine.proofs.StepBytes.{of_then}
use Rattle.run_progress.specs.Made.{Made, event_of, made_from, made_of}

there : {X : Type 0} (o : Option X) → IsSome o → (x : X) × (o ≡ Some x)
there None e = absurd (cc)
there (Some x) e = (x, refl)

-- a step that was made in M
abbrev pub made_as : State → Step → Effect → State → Made
made_as M s e N = record { before = M; step = s; effect = e; after = N }

-- ---- the trace

abbrev Traced : State → List Step → Type 0
Traced M steps = trace_from M steps ≡ Some (map event_of (made_from M steps))

traced-one : (M N : State) (s : Step) (e : Effect) (steps : List Step) → effect_of M s ≡ Some e → next M s ≡ Some N → Traced N steps → Traced M (s ∷ steps)
traced-one M N s e steps effect made rest = rw (effect, made, rest) refl

traced : (M K : State) (steps : List Step) → replay M steps ≡ Some K → Traced M steps
traced M K [] run = refl
traced M K (s ∷ steps) run =
    of_then (λ N. replay N steps) (next M s) K (λ K. Traced M (s ∷ steps)) run (λ N made rest.
    let e = there (effect_of M s) (has-effects M s ∙ ap is_some made) in
    traced-one M N s e.0 steps e.1 made (traced N K steps rest))

pub run-traced : (m : Ran) → IsRun m.setup m.steps → trace_of m ≡ Some (map event_of (made_of m))
unfolding made_of
run-traced m run = let end = there (replay (opening m.setup) m.steps) run.0 in traced (opening m.setup) end.0 m.steps end.1

-- ---- no step

pub made-none : (m : Ran) → made_of (record m { steps = [] }) ≡ []
unfolding made_of
made-none m = refl

-- what is so is so of each result
pub if-ok : {T E : Type 0} (r : Result T E) (P : Type 0) → P → IfOk r (λ _. P)
if-ok (Ok x) P so = so
if-ok (Err e) P so = tt

-- ---- one more step

made-one : (M N : State) (s : Step) (e : Effect) → effect_of M s ≡ Some e → next M s ≡ Some N → made_from M (s ∷ []) ≡ made_as M s e N ∷ []
made-one M N s e effect made = rw (effect, made) refl

made-front : (M N : State) (s : Step) (e : Effect) (steps : List Step) → effect_of M s ≡ Some e → next M s ≡ Some N → made_from M (s ∷ steps) ≡ made_as M s e N ∷ made_from N steps
made-front M N s e steps effect made = rw (effect, made) refl

made-snoc : (M K N : State) (steps : List Step) (s : Step) (e : Effect) → replay M steps ≡ Some K → effect_of K s ≡ Some e → next K s ≡ Some N
    → made_from M (steps ++ s ∷ []) ≡ made_from M steps ++ made_as K s e N ∷ []
made-snoc M K N [] s e run effect made =
    let at : K ≡ M = sym (some_same M K run) in
    made-one M N s e (ap (λ L. effect_of L s) (sym at) ∙ effect) (ap (λ L. next L s) (sym at) ∙ made) ∙ ap (λ L. made_as L s e N ∷ []) (sym at)
made-snoc M K N (x ∷ steps) s e run effect made =
    of_then (λ L. replay L steps) (next M x) K (λ K2. K2 ≡ K → made_from M (x ∷ (steps ++ s ∷ [])) ≡ made_from M (x ∷ steps) ++ made_as K s e N ∷ []) run (λ L first rest same.
    let d = there (effect_of M x) (has-effects M x ∙ ap is_some first) in
    made-front M L x d.0 (steps ++ s ∷ []) d.1 first
    ∙ ap (λ xs. made_as M x d.0 L ∷ xs) (made-snoc L K N steps s e rest effect made)
    ∙ sym (ap (λ xs. xs ++ made_as K s e N ∷ []) (made-front M L x d.0 steps d.1 first)))
    refl

-- the states of a next step that is allowed, and its effect
pub record Makes (m : Ran) (s : Step) (e : Effect) : Type 0 where
  pub before : State
  pub after : State
  pub at : state_of m ≡ Some before
  pub effect : effect_of before s ≡ Some e
  pub made : next before s ≡ Some after

pub makes : (m : Ran) (s : Step) (e : Effect) → effect_in m s ≡ Some e → Makes m s e
makes m s e h = on (nat_lt (length m.steps) m.setup.budget) h
  where
    on : (b : Bool) → cond b (option_and_then (λ M. effect_of M s) (state_of m)) None ≡ Some e → Makes m s e
    on true is = of_then (λ M. effect_of M s) (state_of m) e (Makes m s) is (λ M at effect.
        let to = there (next M s) (sym (has-effects M s) ∙ ap is_some effect) in
        record { before = M; after = to.0; at = at; effect = effect; made = to.1 })
    on false is = absurd (cc)

abbrev pub with_step : Ran → Step → Ran
with_step m s = record m { steps = m.steps ++ s ∷ [] }

pub made-more : (m : Ran) (s : Step) (e : Effect) (x : Makes m s e) → made_of (with_step m s) ≡ made_of m ++ made_as x.before s e x.after ∷ []
unfolding made_of
made-more m s e x = made-snoc (opening m.setup) x.before x.after m.steps s e x.at x.effect x.made

replay-snoc : (M K N : State) (steps : List Step) (s : Step) → replay M steps ≡ Some K → next K s ≡ Some N → replay M (steps ++ s ∷ []) ≡ Some N
replay-snoc M K N [] s run made = let at : M ≡ K = some_same M K run in rw (ap (λ L. next L s) at ∙ made) refl
replay-snoc M K N (x ∷ steps) s run made =
    of_then (λ L. replay L steps) (next M x) K (λ K2. replay M (x ∷ (steps ++ s ∷ [])) ≡ Some N) run (λ L first rest. rw first (replay-snoc L K N steps s rest made))

pub state-more : (m : Ran) (s : Step) (e : Effect) (x : Makes m s e) → state_of (with_step m s) ≡ Some x.after
state-more m s e x = replay-snoc (opening m.setup) x.before x.after m.steps s x.at x.made

-- the bytes that it writes lie in their place
pub fits-more : (m : Ran) (s : Step) (e : Effect) (x : Makes m s e) → IsOpening m.setup → Fits x.before s e
fits-more m s e x is = effects-fit m.setup.lines (length m.steps) x.before s e (runs-are-sound m.setup m.steps x.before is x.at) x.effect

pub long-before : (m : Ran) (s : Step) (e : Effect) (x : Makes m s e) → IsOpening m.setup → length x.before.memory.bytes ≡ 128 * m.setup.lines
long-before m s e x is = (runs-are-sound m.setup m.steps x.before is x.at).long

-- ---- the first steps

abbrev pub first_of : Ran → ℕ → Ran
first_of m n = record m { steps = take n m.steps }

pub first-more : (m : Ran) (j : ℕ) (s : Step) (before after : Ran) → before ≡ first_of m j → slice_get m.steps j ≡ Some s → after ≡ with_step before s → after ≡ first_of m (j + 1)
first-more m j s before after first at more =
    more ∙ ap (λ (r : Ran). with_step r s) first
    ∙ ap (λ (steps : List Step). record m { steps = steps }) (sym (take_more m.steps j s (slice_get_within m.steps j s at) ∙ ap (λ x. take j m.steps ++ x ∷ []) (get_or_from_slice_get m.steps j s s at)))

pub first-all : (m : Ran) (n : ℕ) → length m.steps ≤ n → first_of m n ≡ m
first-all m n all = ap (λ (steps : List Step). let r : Ran = record m { steps = steps } in r) (take_all n m.steps all)

go-on : (M N : State) (steps : List Step) (n : ℕ) (s : Step) → replay M steps ≡ Some N → slice_get steps n ≡ Some s → (K : State) × (replay M (take n steps) ≡ Some K) × IsSome (next K s)
go-on M N [] n s run at = absurd (cc)
go-on M N (t ∷ steps) zero s run at =
    of_then (λ K. replay K steps) (next M t) N (λ N. (K : State) × (replay M [] ≡ Some K) × IsSome (next K s)) run (λ K made rest.
    let same : t ≡ s = cc in
    (M, refl, ap (λ x. is_some (next M x)) (sym same) ∙ ap is_some made))
go-on M N (t ∷ steps) (suc n) s run at =
    of_then (λ K. replay K steps) (next M t) N (λ N. (K : State) × (replay M (t ∷ take n steps) ≡ Some K) × IsSome (next K s)) run (λ K made rest.
    let r = go-on K N steps n s rest at in
    (r.0, rw made r.1, r.2))

-- the step at j may be made
pub may-make : (m : Ran) (j : ℕ) (s : Step) (before : Ran) → IsRun m.setup m.steps → before ≡ first_of m j → slice_get m.steps j ≡ Some s → IsSome (next_of before s)
may-make m j s before run first at =
    let end = there (replay (opening m.setup) m.steps) run.0 in
    let on = go-on (opening m.setup) end.0 m.steps j s end.1 at in
    let low : j < length m.steps = slice_get_within m.steps j s at in
    let many = run.1 in
    let long : length (take j m.steps) ≡ j = length-take-le j m.steps (omega arith) in
    let room : nat_lt (length (take j m.steps)) m.setup.budget ≡ true = lt-ltb _ _ (omega arith) in
    subst (λ r. IsSome (next_of r s)) (sym first) (rw (room, on.1) on.2)

pub made-long : (m : Ran) → IsRun m.setup m.steps → length (made_of m) ≡ length m.steps
unfolding made_of
made-long m run = let end = there (replay (opening m.setup) m.steps) run.0 in long (opening m.setup) end.0 m.steps end.1
  where
    long : (M K : State) (steps : List Step) → replay M steps ≡ Some K → length (made_from M steps) ≡ length steps
    long M K [] h = refl
    long M K (s ∷ steps) h = of_then (λ N. replay N steps) (next M s) K (λ K. length (made_from M (s ∷ steps)) ≡ length (s ∷ steps)) h (λ N made rest.
        let e = there (effect_of M s) (has-effects M s ∙ ap is_some made) in
        ap length (made-front M N s e.0 steps e.1 made) ∙ ap suc (long N K steps rest))
