-- Each run is recorded by functions of the place.
use Rattle.std.proofs.Common.{◌≡◌, ℕ, zero, suc, ◌+◌, ◌<◌, ◌≤◌, refl, sym, ◌∙◌, ap, subst, arith, false, List, [], ◌∷◌, ◌++◌, length, take, get_or, Option, Some, None}
use Rattle.std.specs.Prelude.{slice_get, option_and_then, IsSome}
use Rattle.std.specs.Option.{option_map_or}
use Rattle.std.proofs.lemmas.List.{length-take-le, take_more, take_all}
use Rattle.std.proofs.lemmas.Bool.{cases_lt}
use Rattle.std.proofs.Common.{inl, inr}
use Rattle.std.proofs.lemmas.Option.{slice_get-get_or, get_or_from_slice_get}
use Rattle.cell_base.specs.declared.steps.Step.{Step}
use Rattle.cell_base.specs.declared.steps.Step.TheVariants.{Host}
use Rattle.cell_machine.specs.declared.effect.Place.TheVariants.{Memory}
use Rattle.cell_machine.specs.declared.effect.Note.TheVariants.{Nothing}
use Rattle.cell_machine.specs.declared.effect.Effect.{Effect}
use Rattle.cell_machine.specs.State.{State}
use Rattle.cell_machine.specs.Next.{next}
use Rattle.cell_machine.specs.Opening.{opening}
use Rattle.cell_machine.specs.Limits.{IsOpening}
use Rattle.cell_machine.specs.Run.{Ran, IsRun, replay}
use Rattle.cell_machine.specs.Sound.{IsSound}
use Rattle.cell_machine.specs.Traces.{Event, event, trace_from}
use Rattle.cell_machine.specs.Effects.{effect_of}
use Rattle.cell_machine.proofs.Replays.{replay-snoc}
use Rattle.cell_machine.proofs.Sounds.{runs-are-sound}
use Rattle.cell_machine.proofs.Same.{some_same}
use Rattle.cell_machine.proofs.StepBytes.{of_map, of_then}
use Rattle.race_order.specs.Told.{trace_in}
use Rattle.race_check.proofs.Prefixes.{go-on, run-told}
use Rattle.reorder_laws.specs.Recorded.{Recorded, IsRecorded}
use Rattle.reorder_laws.specs.Recording.{Records}

there : {X : Type 0} (o : Option X) → IsSome o → (x : X) × (o ≡ Some x)
there None e = absurd (cc)
there (Some x) e = (x, refl)

nothing : Event
nothing = record {
  step = Host;
  effect = record { fetch = record { place = Memory; at = 0; len = 0 }; reads = record { place = Memory; at = 0; len = 0 }; writes = record { place = Memory; at = 0; len = 0 }; note = Nothing; fixed = false };
}

-- the run m as functions of the place
pub recording : Ran → Recorded
recording m = record {
  size = length m.steps;
  step = λ j. get_or m.steps j Host;
  effect = λ j. (get_or (trace_in m) j nothing).effect;
  state = λ j. option_map_or (λ M. M) (replay (opening m.setup) (take j m.steps)) (opening m.setup);
}

-- the event at a place, in the state before it
event_at : (M : State) (steps : List Step) (trace : List Event) (j : ℕ) (s : Step) (K : State) → trace_from M steps ≡ Some trace → slice_get steps j ≡ Some s → replay M (take j steps) ≡ Some K → (e : Effect) × (effect_of K s ≡ Some e) × (slice_get trace j ≡ Some (record { step = s; effect = e }))
event_at M [] trace j s K h at run = absurd (cc)
event_at M (t ∷ steps) trace zero s K h at run =
    let same : t ≡ s = cc in
    let here : M ≡ K = some_same M K run in
    of_then _ (event M t) trace (λ trace. (e : Effect) × (effect_of K s ≡ Some e) × (slice_get trace zero ≡ Some (record { step = s; effect = e }))) h (λ x told later.
    of_then _ (next M t) trace (λ trace. (e : Effect) × (effect_of K s ≡ Some e) × (slice_get trace zero ≡ Some (record { step = s; effect = e }))) later (λ N made rest.
    of_map (λ events. x ∷ events) (trace_from N steps) trace (λ trace. (e : Effect) × (effect_of K s ≡ Some e) × (slice_get trace zero ≡ Some (record { step = s; effect = e }))) rest (λ more is.
    of_map (λ e. record { step = t; effect = e }) (effect_of M t) x (λ x. (e : Effect) × (effect_of K s ≡ Some e) × (Some x ≡ Some (record { step = s; effect = e }))) told (λ e effect.
    (e, ap (λ M. effect_of M s) (sym here) ∙ ap (effect_of M) (sym same) ∙ effect, ap (λ t. Some (record { step = t; effect = e })) same)))))
event_at M (t ∷ steps) trace (suc j) s K h at run =
    of_then _ (event M t) trace (λ trace. (e : Effect) × (effect_of K s ≡ Some e) × (slice_get trace (suc j) ≡ Some (record { step = s; effect = e }))) h (λ x told later.
    of_then _ (next M t) trace (λ trace. (e : Effect) × (effect_of K s ≡ Some e) × (slice_get trace (suc j) ≡ Some (record { step = s; effect = e }))) later (λ N made rest.
    of_map (λ events. x ∷ events) (trace_from N steps) trace (λ trace. (e : Effect) × (effect_of K s ≡ Some e) × (slice_get trace (suc j) ≡ Some (record { step = s; effect = e }))) rest (λ more is.
    event_at N steps more j s K is at (sym (ap (option_and_then (λ N. replay N (take j steps))) made) ∙ run))))

module _ (m : Ran) (run : IsRun m.setup m.steps) where
  end : (N : State) × (replay (opening m.setup) m.steps ≡ Some N)
  end = there (replay (opening m.setup) m.steps) run.0

  step_at : (j : ℕ) → j < length m.steps → slice_get m.steps j ≡ Some (get_or m.steps j Host)
  step_at j low = slice_get-get_or m.steps j Host low

  some_of : (o : Option State) (K M : State) → o ≡ Some K → o ≡ Some (option_map_or (λ M. M) o M)
  some_of None K M e = absurd (cc)
  some_of (Some N) K M e = refl

  state_at : (j : ℕ) → j ≤ length m.steps → (K : State) × (replay (opening m.setup) (take j m.steps) ≡ Some K)
  state_at j low = elim (cases_lt j (length m.steps)) [
    | inl less ↦ let g = go-on (opening m.setup) end.0 m.steps j (get_or m.steps j Host) end.1 (step_at j less) in (g.0, g.1)
    | inr all ↦ (end.0, ap (replay (opening m.setup)) (take_all j m.steps all) ∙ end.1)
  ]

  pub records : Records m (recording m)
  unfolding recording
  records = record {
    size = refl;
    step = step_at;
    start = refl;
    at = λ j low. let s = state_at j low in some_of (replay (opening m.setup) (take j m.steps)) s.0 (opening m.setup) s.1;
    event = λ j low.
        let s = state_at j (omega (arith, low)) in
        let e = event_at (opening m.setup) m.steps (trace_in m) j (get_or m.steps j Host) s.0 (run-told m run) (step_at j low) s.1 in
        e.2 ∙ ap (λ (x : Event). Some (record { step = get_or m.steps j Host; effect = x.effect })) (sym (get_or_from_slice_get (trace_in m) j (record { step = get_or m.steps j Host; effect = e.0 }) nothing e.2));
  }

  pub recorded : IsOpening m.setup → IsRecorded (recording m)
  recorded opens = record {
    made = λ j low.
        some_same_option (next ((recording m).state j) ((recording m).step j)) ((recording m).state (suc j)) (sym (ap (option_and_then (λ N. next N ((recording m).step j))) (records.at j (less_of j low)))
        ∙ sym (replay-snoc (opening m.setup) (take j m.steps) ((recording m).step j)) ∙ ap (replay (opening m.setup)) (sym (take_next j low)) ∙ records.at (suc j) low);
    told = λ j low.
        let e = event_at (opening m.setup) m.steps (trace_in m) j ((recording m).step j) ((recording m).state j) (run-told m run) (records.step j low) (records.at j (less_of j low)) in
        e.1 ∙ ap (λ (o : Option Effect). o) (effect_is j e.0 (some_same _ _ (sym e.2 ∙ records.event j low)));
    lines = m.setup.lines;
    sound = λ j low. subst (λ n. IsSound m.setup.lines n ((recording m).state j)) (length-take-le j m.steps (long_of j low)) (runs-are-sound m.setup (take j m.steps) ((recording m).state j) opens (records.at j low));
  }
    where
      less_of : (j : ℕ) → j < (recording m).size → j ≤ (recording m).size
      less_of j low = omega (arith, low)

      long_of : (j : ℕ) → j ≤ (recording m).size → j ≤ length m.steps
      long_of j low = subst (λ n. j ≤ n) records.size low

      some_same_option : (o : Option State) (N : State) → o ≡ Some N → o ≡ Some N
      some_same_option o N e = e

      take_next : (j : ℕ) → j < (recording m).size → take (suc j) m.steps ≡ take j m.steps ++ (recording m).step j ∷ []
      take_next j low =
          let e : suc j ≡ j + 1 = omega arith in
          let l : j < length m.steps = subst (λ n. j < n) records.size low in
          ap (λ k. take k m.steps) e ∙ take_more m.steps j ((recording m).step j) l ∙ ap (λ x. take j m.steps ++ x ∷ []) (get_or_from_slice_get m.steps j ((recording m).step j) ((recording m).step j) (records.step j low))

      effect_is : (j : ℕ) (e : Effect) → ◌≡◌ {A = Event} (record { step = (recording m).step j; effect = e }) (record { step = (recording m).step j; effect = (recording m).effect j }) → Some e ≡ Some ((recording m).effect j)
      effect_is j e h = ap (λ (x : Event). Some x.effect) h

  pub recorded-lines : (opens : IsOpening m.setup) → (recorded opens).lines ≡ m.setup.lines
  unfolding recorded
  recorded-lines opens = refl
