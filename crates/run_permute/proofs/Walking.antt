-- A run that is made again, step by step.
use Rattle.std.proofs.Common.{◌≡◌, ℕ, suc, ◌+◌, ◌-◌, ◌<◌, ◌≤◌, Bool, List, [], ◌∷◌, ◌++◌, length, take, refl, sym, ap, ◌∙◌, subst, arith, Some}
use Rattle.std.specs.Prelude.{◌↔◌, IsTrue, IsSomeAnd, slice_get}
use Rattle.std.proofs.lemmas.List.{length-take-le}
use Rattle.std.proofs.lemmas.Option.{slice_get_within}
use Rattle.cell_base.specs.declared.steps.Step.{Step}
use Rattle.cell_machine.specs.declared.effect.Effect.{Effect}
use Rattle.cell_machine.specs.Exec.{asks}
use Rattle.cell_machine.specs.Opening.{opening}
use Rattle.cell_machine.specs.Run.{Ran, IsRun, spe_of}
use Rattle.cell_machine.specs.Effects.{effect_in}
use Rattle.cell_machine.specs.Traces.{Event, trace_of}
use Rattle.cell_machine.proofs.AllTwo.{some_and}
use Rattle.cell_machine.proofs.Same.{get-last, some_same}
use Rattle.race_order.specs.Told.{trace_in}
use Rattle.run_walk.specs.Ordered.{IsOrdered}
use Rattle.race_order.proofs.OrderedRuns.{follows, leads, trace-is, trace-snoc}
use Rattle.race_order.proofs.Places.{get_take, take_step}
use Rattle.race_order.proofs.Runs.{is-orderly, may-follow}
use Rattle.race_order.specs.Orderly.{IsWithin}
use Rattle.race_check.proofs.Prefixes.{run-told, trace-first, trace_in-first, ordered-first}
use Rattle.reorder_laws.proofs.Recording.{recording, records}
use Rattle.reorder_laws.specs.Places.{until}
use Rattle.run_permute.specs.declared.made.Made.{Made}
use Rattle.run_permute.specs.Walks.{IsAsked, IsMade, IsMadeFrom}
use Rattle.run_permute.proofs.Here.{trace-size}

-- ---- the next step

-- its processor is there
pub within-next : (m : Ran) (s : Step) (e : Effect) → trace_of m ≡ Some (trace_in m) → effect_in m s ≡ Some e → IsWithin (length m.setup.entries) s
within-next m s e told effect =
    let f = follows m s e effect in
    let to = leads f.state s e f.effect in
    (may-follow m (trace_in m) f.state to.0 s e told f.at to.1 f.effect).0.within

-- so is that of a step that was made
pub step-inside : (m : Ran) (j : ℕ) (s : Step) → IsRun m.setup m.steps → slice_get m.steps j ≡ Some s → IsWithin (length m.setup.entries) s
step-inside m j s run at =
    let of = records m run in
    let size : (recording m).size ≡ length m.steps = of.size in
    let there : j < length m.steps = slice_get_within m.steps j s at in
    let low : j < (recording m).size = omega arith in
    let inside = ((is-orderly m (trace_in m) (run-told m run)).0 j _ (of.event j low)).within in
    subst (IsWithin (length m.setup.entries)) (some_same ((recording m).step j) s (sym (of.step j low) ∙ at)) inside

-- ---- one step more

pub until-next : (m : Ran) (j : ℕ) (s : Step) (before after : Ran) → before ≡ until m j → slice_get m.steps j ≡ Some s → after ≡ record before { steps = before.steps ++ s ∷ [] } → after ≡ until m (j + 1)
until-next m j s before after first at more =
    more ∙ ap (λ (r : Ran). record r { steps = r.steps ++ s ∷ [] }) first ∙ ap (λ (steps : List Step). record m { steps = steps }) (sym (take_step m.steps j s at)) ∙ (let e : suc j ≡ j + 1 = omega arith in ap (until m) e)

-- the event of the step
pub event-there : (m : Ran) (j : ℕ) (s : Step) (e : Effect) (before : Ran) → IsRun m.setup m.steps → before ≡ until m j → slice_get m.steps j ≡ Some s → trace_of before ≡ Some (trace_in before) → effect_in before s ≡ Some e
    → slice_get (trace_in m) j ≡ Some (record { step = s; effect = e })
event-there m j s e before run first at told effect =
    let x : Event = record { step = s; effect = e } in
    let after : Ran = record before { steps = before.steps ++ s ∷ [] } in
    let f = follows before s e effect in
    let more : trace_in after ≡ trace_in before ++ x ∷ [] = trace-is after (trace_in before ++ x ∷ []) (trace-snoc (opening before.setup) f.state before.steps (trace_in before) s e told f.at f.effect) in
    let whole : trace_in after ≡ take (j + 1) (trace_in m) = ap trace_in (until-next m j s before after first at refl) ∙ trace_in-first m (j + 1) (run-told m run) in
    let front : trace_in before ≡ take j (trace_in m) = ap trace_in first ∙ trace_in-first m j (run-told m run) in
    let low : j < length m.steps = slice_get_within m.steps j s at in
    let size = trace-size m run in
    let long : length (trace_in before) ≡ j = ap length front ∙ length-take-le j (trace_in m) (omega arith) in
    sym (get_take (trace_in m) (j + 1) j (omega arith)) ∙ ap (λ t. slice_get t j) (sym whole ∙ more) ∙ ap (slice_get (trace_in before ++ x ∷ [])) (sym long) ∙ get-last (trace_in before) x

-- what it asks for
pub asked-there : (m : Ran) (j p : ℕ) (made : Made) (before : Ran) → before ≡ until m j → IsSomeAnd (spe_of before p) (λ P. made.operation ≡ asks P) → IsAsked m j p made
asked-there m j p made before first h =
    let x = some_and (spe_of before p) (λ P. made.operation ≡ asks P) h in
    record { spe = x.0; at = ap (λ r. spe_of r p) (sym first) ∙ x.1; asks_is = sym x.2 }

-- the step, as it was told before it was made
pub made-there : (m : Ran) (j : ℕ) (s : Step) (made : Made) (before : Ran) → IsRun m.setup m.steps → before ≡ until m j → slice_get m.steps j ≡ Some s → IsMadeFrom before s made → IsMade m j s made
made-there m j s made before run first at from =
    let told = run-told m run in
    let same : trace_of before ≡ Some (trace_in before) = subst (λ r. trace_of r ≡ Some (trace_in r)) (sym first) (trace-first m j told ∙ ap Some (sym (trace_in-first m j told))) in
    record {
      event = event-there m j s made.effect before run first at same from.effect;
      asked = λ p own. asked-there m j p made before first (from.asked p own);
    }

pub until-long : (m : Ran) (j : ℕ) → j ≤ length m.steps → length (until m j).steps ≡ j
until-long m j low = length-take-le j m.steps low

-- what is ordered before the last step of the first ones
pub ordered-until : (m : Ran) (j i : ℕ) (b : Bool) → IsRun m.setup m.steps → j + 1 ≤ length m.steps → IsTrue b ↔ IsOrdered (until m (j + 1)) i (length (until m (j + 1)).steps - 1) → IsTrue b ↔ IsOrdered m i j
ordered-until m j i b run within on =
    let long : length (until m (j + 1)).steps ≡ j + 1 = until-long m (j + 1) within in
    let last : length (until m (j + 1)).steps - 1 ≡ j = omega arith in
    let first = ordered-first m (j + 1) i j (run-told m run) (omega arith) in
    (λ t. first.0 (subst (IsOrdered (until m (j + 1)) i) last (on.0 t)), λ o. on.1 (subst (IsOrdered (until m (j + 1)) i) (sym last) (first.1 o)))
