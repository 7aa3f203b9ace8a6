-- A run and its first steps: their traces, their order, and the actions that they are.
use Rattle.std.proofs.Common.{◌≡◌, ℕ, zero, suc, ◌+◌, ◌<◌, ◌≤◌, List, [], ◌∷◌, ◌++◌, length, map, take, true, refl, sym, ap, ◌∙◌, subst, arith, Option, Some, None}
use Rattle.std.specs.Prelude.{◌↔◌, nat_lt, slice_get, is_some, IsSome, option_map, option_and_then}
use Rattle.std.proofs.lemmas.Bool.{lt-ltb}
use Rattle.std.proofs.lemmas.List.{length-map, length-take-le, map-append, take-map, take-take, take_all, take_more}
use Rattle.std.proofs.lemmas.Option.{get_or_from_slice_get, slice_get_within}
use Rattle.cell_base.specs.declared.steps.Step.{Step}
use Rattle.cell_machine.specs.State.{State}
use Rattle.cell_machine.specs.Next.{next}
use Rattle.cell_machine.specs.Opening.{opening}
use Rattle.cell_machine.specs.Run.{Ran, IsRun, next_of, replay}
use Rattle.cell_machine.specs.declared.effect.Effect.{Effect}
use Rattle.cell_machine.specs.Effects.{effect_in, effect_of}
use Rattle.cell_machine.specs.Traces.{Event, event, trace_from, trace_of}
use Rattle.cell_machine.specs.ByteRuns.{Action, action_of, actions}
use Rattle.cell_machine.proofs.EffectsDefined.{has-effects}
use Rattle.cell_machine.proofs.Same.{some_same}
use Rattle.cell_machine.proofs.StepBytes.{of_map, of_then}
use Rattle.race_order.specs.Trace.{Trace}
use Rattle.race_order.specs.Rules.{Rule, Edge, Ordered, One, Then}
use Rattle.race_order.specs.Told.{trace_in}
use Rattle.race_order.proofs.Holding.{ordered_up}
use Rattle.race_order.proofs.OrderedRuns.{follows, trace-is, trace-long, trace-snoc}
use Rattle.race_check.specs.declared.access.Access.{Access}
use Rattle.race_check.specs.Races.{access_of, accesses_on}
use Rattle.race_check.specs.Walks.{IsOrdered, accesses_in}
use Rattle.race_check.proofs.Agree.{accesses_of}

there : {X : Type 0} (o : Option X) → IsSome o → (x : X) × (o ≡ Some x)
there None e = absurd (cc)
there (Some x) e = (x, refl)

-- ---- the trace of a run

told-one : (M K : State) (s : Step) (steps : List Step) (e : Effect) (trace : Trace) → effect_of M s ≡ Some e → next M s ≡ Some K → trace_from K steps ≡ Some trace → trace_from M (s ∷ steps) ≡ Some (record { step = s; effect = e } ∷ trace)
told-one M K s steps e trace effect made rest = rw (effect, made, rest) refl

told : (M N : State) (steps : List Step) → replay M steps ≡ Some N → (trace : Trace) × (trace_from M steps ≡ Some trace)
told M N [] run = ([], refl)
told M N (s ∷ steps) run =
    of_then (λ K. replay K steps) (next M s) N (λ N. (trace : Trace) × (trace_from M (s ∷ steps) ≡ Some trace)) run (λ K made rest.
    let e = there (effect_of M s) (has-effects M s ∙ ap is_some made) in
    let t = told K N steps rest in
    (record { step = s; effect = e.0 } ∷ t.0, told-one M K s steps e.0 t.0 e.1 made t.1))

-- every run has a trace
pub run-told : (m : Ran) → IsRun m.setup m.steps → trace_of m ≡ Some (trace_in m)
run-told m run =
    let end = there (replay (opening m.setup) m.steps) run.0 in
    let t = told (opening m.setup) end.0 m.steps end.1 in
    t.1 ∙ ap Some (sym (trace-is m t.0 t.1))

trace-take : (M : State) (steps : List Step) (trace : Trace) (n : ℕ) → trace_from M steps ≡ Some trace → trace_from M (take n steps) ≡ Some (take n trace)
trace-take M steps trace zero h = refl
trace-take M [] trace (suc n) h = ap (λ t. Some (take (suc n) t)) (some_same [] trace h)
trace-take M (s ∷ steps) trace (suc n) h =
    of_then _ (event M s) trace (λ t. trace_from M (s ∷ take n steps) ≡ Some (take (suc n) t)) h (λ e is later.
    of_then _ (next M s) trace (λ t. trace_from M (s ∷ take n steps) ≡ Some (take (suc n) t)) later (λ K made rest.
    of_map (λ events. e ∷ events) (trace_from K steps) trace (λ t. trace_from M (s ∷ take n steps) ≡ Some (take (suc n) t)) rest (λ more told_more.
    rw (is, made, trace-take K steps more n told_more) refl)))

-- the actions of a run, and that their spans are those of its trace
abbrev Acted : State → List Step → Trace → Type 0
Acted M steps trace = (made : List Action) × (actions M steps ≡ Some made) × (accesses_of made ≡ map (λ (e : Event). access_of e.effect) trace)

acted : (M : State) (steps : List Step) (trace : Trace) → trace_from M steps ≡ Some trace → Acted M steps trace
acted M [] trace h = ([], refl, ap (map (λ (e : Event). access_of e.effect)) (some_same [] trace h))
acted M (s ∷ steps) trace h =
    of_then _ (event M s) trace (Acted M (s ∷ steps)) h (λ x told later.
    of_map (λ e. record { step = s; effect = e }) (effect_of M s) x (λ x. option_and_then (λ N. option_map (λ events. x ∷ events) (trace_from N steps)) (next M s) ≡ Some trace → Acted M (s ∷ steps) trace) told (λ e effect later2.
    of_then _ (next M s) trace (Acted M (s ∷ steps)) later2 (λ N made rest.
    of_map (λ events. record { step = s; effect = e } ∷ events) (trace_from N steps) trace (Acted M (s ∷ steps)) rest (λ more is.
    let r = acted N steps more is in
    (action_of M s e ∷ r.0, rw (effect, made, r.1) refl, ap (λ rest. access_of e ∷ rest) r.2))))
    later)

pub run-acted : (m : Ran) → trace_of m ≡ Some (trace_in m) → (made : List Action) × (actions (opening m.setup) m.steps ≡ Some made) × (accesses_of made ≡ accesses_in m)
run-acted m is = acted (opening m.setup) m.steps (trace_in m) is

-- the next step of a run is allowed
pub go-on : (M N : State) (steps : List Step) (n : ℕ) (s : Step) → replay M steps ≡ Some N → slice_get steps n ≡ Some s → (K : State) × (replay M (take n steps) ≡ Some K) × IsSome (next K s)
go-on M N [] n s run at = absurd (cc)
go-on M N (t ∷ steps) zero s run at =
    of_then (λ K. replay K steps) (next M t) N (λ N. (K : State) × (replay M [] ≡ Some K) × IsSome (next K s)) run (λ K made rest.
    let same : t ≡ s = cc in
    (M, refl, ap (λ x. is_some (next M x)) (sym same) ∙ ap is_some made))
go-on M N (t ∷ steps) (suc n) s run at =
    of_then (λ K. replay K steps) (next M t) N (λ N. (K : State) × (replay M (t ∷ take n steps) ≡ Some K) × IsSome (next K s)) run (λ K made rest.
    let r = go-on K N steps n s rest at in
    (r.0, rw made r.1, r.2))

-- ---- the order of its first steps

module _ (trace : Trace) (n : ℕ) where
  same_front : (j : ℕ) → j < n → take (j + 1) (take n trace) ≡ take (j + 1) trace
  same_front j low = take-take (j + 1) n trace (omega arith)

  edge_whole : (i j : ℕ) → j < n → Edge Rule (take n trace) i j → Edge Rule trace i j
  edge_whole i j low e = record { below = e.below; rule = subst (λ t. Rule t i j) (same_front j low) e.rule }

  edge_front : (i j : ℕ) → j < n → Edge Rule trace i j → Edge Rule (take n trace) i j
  edge_front i j low e = record { below = e.below; rule = subst (λ t. Rule t i j) (sym (same_front j low)) e.rule }

  whole : (i j : ℕ) → j < n → Ordered Rule (take n trace) i j → Ordered Rule trace i j
  whole i j low (One e) = One (edge_whole i j low e)
  whole i j low (Then {k = k} o e) = let less : k < j = e.below in Then (whole i k (omega arith) o) (edge_whole k j low e)

  front : (i j : ℕ) → j < n → Ordered Rule trace i j → Ordered Rule (take n trace) i j
  front i j low (One e) = One (edge_front i j low e)
  front i j low (Then {k = k} o e) = let less : k < j = e.below in Then (front i k (omega arith) o) (edge_front k j low e)

ordered_trans : (trace : Trace) (i m j : ℕ) → Ordered Rule trace i m → Ordered Rule trace m j → Ordered Rule trace i j
ordered_trans trace i m j o (One e) = Then o e
ordered_trans trace i m j o (Then {k = k} p e) = Then (ordered_trans trace i m k o p) e

pub is_ordered-trans : (m : Ran) (i k j : ℕ) → IsOrdered m i k → IsOrdered m k j → IsOrdered m i j
is_ordered-trans m i k j a b = ordered_trans (trace_in m) i k j a b

pub is_ordered-up : (m : Ran) (i j : ℕ) → IsOrdered m i j → i < j
is_ordered-up m i j a = ordered_up Rule (trace_in m) i j a

-- the run of its first n steps
abbrev pub first_of : Ran → ℕ → Ran
first_of m n = record m { steps = take n m.steps }

pub trace-first : (m : Ran) (n : ℕ) → trace_of m ≡ Some (trace_in m) → trace_of (first_of m n) ≡ Some (take n (trace_in m))
trace-first m n is = trace-take (opening m.setup) m.steps (trace_in m) n is

pub trace_in-first : (m : Ran) (n : ℕ) → trace_of m ≡ Some (trace_in m) → trace_in (first_of m n) ≡ take n (trace_in m)
trace_in-first m n is = trace-is (first_of m n) (take n (trace_in m)) (trace-first m n is)

pub accesses_in-first : (m : Ran) (n : ℕ) → trace_of m ≡ Some (trace_in m) → accesses_in (first_of m n) ≡ take n (accesses_in m)
accesses_in-first m n is = ap (map (λ e. access_of e.effect)) (trace_in-first m n is) ∙ sym (take-map (λ e. access_of e.effect) n (trace_in m))

pub ordered-first : (m : Ran) (n i j : ℕ) → trace_of m ≡ Some (trace_in m) → j < n → IsOrdered (first_of m n) i j ↔ IsOrdered m i j
ordered-first m n i j is low =
    let same = trace_in-first m n is in (
      λ o. whole (trace_in m) n i j low (subst (λ trace. Ordered Rule trace i j) same o),
      λ o. subst (λ trace. Ordered Rule trace i j) (sym same) (front (trace_in m) n i j low o),
    )

-- a step more is an access more
pub accesses-next : (m : Ran) (s : Step) (e : Effect) → trace_of m ≡ Some (trace_in m) → effect_in m s ≡ Some e → accesses_in (record m { steps = m.steps ++ s ∷ [] }) ≡ accesses_in m ++ (access_of e ∷ [])
accesses-next m s e is effect =
    let f = follows m s e effect in
    let trace = trace-is (record m { steps = m.steps ++ s ∷ [] }) (trace_in m ++ (record { step = s; effect = e } ∷ [])) (trace-snoc (opening m.setup) f.state m.steps (trace_in m) s e is f.at f.effect) in
    ap (map (λ e. access_of e.effect)) trace ∙ map-append (λ e. access_of e.effect) (trace_in m) (record { step = s; effect = e } ∷ [])

-- ---- the step at j

take_one_more : (steps : List Step) (j : ℕ) (s : Step) → slice_get steps j ≡ Some s → take (j + 1) steps ≡ take j steps ++ s ∷ []
take_one_more steps j s at = take_more steps j s (slice_get_within steps j s at) ∙ ap (λ x. take j steps ++ x ∷ []) (get_or_from_slice_get steps j s s at)

-- the first j steps of a run were made again, and then the one at j
pub first-more : (m : Ran) (j : ℕ) (s : Step) (before after : Ran) → before ≡ first_of m j → slice_get m.steps j ≡ Some s → after ≡ record before { steps = before.steps ++ s ∷ [] } → after ≡ first_of m (j + 1)
first-more m j s before after first at more =
    more ∙ ap (λ (r : Ran). record r { steps = r.steps ++ s ∷ [] }) first ∙ ap (λ (steps : List Step). record m { steps = steps }) (sym (take_one_more m.steps j s at))

-- its first steps are all of them
pub first-all : (m : Ran) (n : ℕ) → length m.steps ≤ n → first_of m n ≡ m
first-all m n all = ap (λ (steps : List Step). let r : Ran = record m { steps = steps } in r) (take_all n m.steps all)

-- a run has an access for each step
pub accesses-long : (m : Ran) → trace_of m ≡ Some (trace_in m) → length (accesses_in m) ≡ length m.steps
accesses-long m is = length-map (trace_in m) (λ e. access_of e.effect) ∙ trace-long (opening m.setup) m.steps (trace_in m) is

-- an access is of one of its steps
pub access-within : (m : Ran) (trace : Trace) → trace_of m ≡ Some trace → (j : ℕ) (a : Access) → slice_get (accesses_on trace) j ≡ Some a → j < length m.steps
access-within m trace is j a at =
    let low : j < length (accesses_on trace) = slice_get_within (accesses_on trace) j a at in
    let many : length (accesses_on trace) ≡ length trace = length-map trace (λ e. access_of e.effect) in
    let long : length trace ≡ length m.steps = trace-long (opening m.setup) m.steps trace is in
    omega arith

-- the step at j may be made
pub may-make : (m : Ran) (j : ℕ) (s : Step) (before : Ran) → IsRun m.setup m.steps → before ≡ first_of m j → slice_get m.steps j ≡ Some s → IsSome (next_of before s)
may-make m j s before run first at =
    let end = there (replay (opening m.setup) m.steps) run.0 in
    let on = go-on (opening m.setup) end.0 m.steps j s end.1 at in
    let low : j < length m.steps = slice_get_within m.steps j s at in
    let many = run.1 in
    let long : length (take j m.steps) ≡ j = length-take-le j m.steps (omega arith) in
    let room : nat_lt (length (take j m.steps)) m.setup.budget ≡ true = lt-ltb _ _ (omega arith) in
    subst (λ r. IsSome (next_of r s)) (sym first) (rw (room, on.1) on.2)
