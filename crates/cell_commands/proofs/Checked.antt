-- What a record file is found to be, computed: so it is found to be something, and nothing else.
use Rattle.std.proofs.Common.{◌≡◌, ℕ, zero, suc, ◌+◌, ◌≤◌, List, [], ◌∷◌, ◌++◌, ◌-◌, length, take, length-append, Option, Some, None, Result, Ok, Err, refl, sym, ap, subst, ◌∙◌, arith, inl, inr}
use Rattle.std.specs.Prelude.{◌≢◌, ◌⊎◌, is_some, IsSome, option_and_then}
use Rattle.std.proofs.Math.Seq.{take-append_seam}
use Rattle.cell_base.specs.declared.format.Format.{Format}
use Rattle.cell_base.specs.declared.steps.Step.{Step}
use Rattle.cell_base.specs.Records.{spelling, AreSteps}
use Rattle.cell_machine.specs.State.{State}
use Rattle.cell_machine.specs.Next.{next}
use Rattle.cell_machine.specs.Opening.{Opening, opening}
use Rattle.cell_machine.specs.Run.{Ran, replay}
use Rattle.cell_machine.proofs.Replays.{run-length}
use Rattle.cell_report.specs.States.{states_of}
use Rattle.run_record.specs.Reading.{record_at}
use Rattle.run_record.specs.Replayed.{IsRefusedAt}
use Rattle.run_record.proofs.Records.{record_again, record_takes, record_faults, record_faulted}
use Rattle.cell_commands.specs.declared.fault.Fault.{Fault}
use Rattle.cell_commands.specs.declared.fault.Fault.TheVariants.{BadRecord, NotARun, StatesDiffer}
use Rattle.cell_commands.specs.Checks.{DifferAt, BeginsWithRun, TellsEnd, RecordsRun, StatesDifferAt, Finds}
use Rattle.cell_commands.proofs.Differences.{differ, differ-same, none-differ, found as differ-found, differs}
use Rattle.state_lines.specs.Ends.{end_of}
use Rattle.state_lines.proofs.EndLemmas.{end-is, is-end}

-- ---- steps

abbrev or_refused : Option State → ℕ → (State → Result State ℕ) → Result State ℕ
or_refused None at go_on = Err at
or_refused (Some N) at go_on = go_on N

-- the state after the steps, of which the first has this number, where there is room for so many; or the number of the first that is refused
abbrev replayed : ℕ → ℕ → State → List Step → Result State ℕ
replayed at room M [] = Ok M
replayed at zero M (s ∷ steps) = Err at
replayed at (suc room) M (s ∷ steps) = or_refused (next M s) at (λ N. replayed (at + 1) room N steps)

replays : (steps : List Step) (at room : ℕ) (M N : State) → length steps ≤ room → replay M steps ≡ Some N → replayed at room M steps ≡ Ok N
replays [] at room M N le is = let same : M ≡ N = cc in ap (λ (K : State). Ok K) same
replays (s ∷ steps) at zero M N le is = absurd (omega (arith, le))
replays (s ∷ steps) at (suc room) M N le is = on (next M s) is (λ K e. replays steps (at + 1) room K N (omega (arith, le)) e)
  where
    on : (o : Option State) → option_and_then (λ K. replay K steps) o ≡ Some N → ((K : State) → replay K steps ≡ Some N → replayed (at + 1) room K steps ≡ Ok N) → or_refused o at (λ K. replayed (at + 1) room K steps) ≡ Ok N
    on None e later = absurd cc
    on (Some K) e later = later K e

-- steps that are replayed are a run within the room
is-replayed : (steps : List Step) (at room : ℕ) (M N : State) → replayed at room M steps ≡ Ok N → (replay M steps ≡ Some N) × (length steps ≤ room)
is-replayed [] at room M N e = (let same : M ≡ N = cc in ap (λ (K : State). Some K) same, omega arith)
is-replayed (s ∷ steps) at zero M N e = absurd cc
is-replayed (s ∷ steps) at (suc room) M N e = on (next M s) e (λ K later. is-replayed steps (at + 1) room K N later)
  where
    on : (o : Option State) → or_refused o at (λ K. replayed (at + 1) room K steps) ≡ Ok N → ((K : State) → replayed (at + 1) room K steps ≡ Ok N → (replay K steps ≡ Some N) × (length steps ≤ room))
        → (option_and_then (λ K. replay K steps) o ≡ Some N) × (length (s ∷ steps) ≤ suc room)
    on None e later = absurd cc
    on (Some K) e later = let rest = later K e in (rest.0, omega (arith, rest.1))

refuses : (before : List Step) (s : Step) (after : List Step) (at room : ℕ) (M : State) → IsSome (replay M before) → length before ≤ room → (IsSome (replay M (before ++ s ∷ [])) → length before + 1 ≤ room → ⊥)
    → replayed at room M (before ++ s ∷ after) ≡ Err (at + length before)
refuses [] s after at zero M is le refused = let same : at ≡ at + length {A = Step} [] = omega arith in ap (λ (k : ℕ). Err k) same
refuses [] s after at (suc room) M is le refused = on (next M s) (λ h. refused h (omega arith))
  where
    same : at ≡ at + length {A = Step} []
    same = omega arith

    on : (o : Option State) → (IsSome (option_and_then (λ K. Some K) o) → ⊥) → or_refused o at (λ K. replayed (at + 1) room K after) ≡ Err (at + length {A = Step} [])
    on None refused = ap (λ (k : ℕ). Err k) same
    on (Some K) refused = absurd (refused refl)
refuses (b ∷ before) s after at zero M is le refused = absurd (omega (arith, le))
refuses (b ∷ before) s after at (suc room) M is le refused =
    on (next M b) is refused (λ K runs stops. refuses before s after (at + 1) room K runs (omega (arith, le)) stops)
  where
    same : (at + 1) + length before ≡ at + length (b ∷ before)
    same = omega arith

    on : (o : Option State) → IsSome (option_and_then (λ K. replay K before) o) → (IsSome (option_and_then (λ K. replay K (before ++ s ∷ [])) o) → length (b ∷ before) + 1 ≤ suc room → ⊥)
        → ((K : State) → IsSome (replay K before) → (IsSome (replay K (before ++ s ∷ [])) → length before + 1 ≤ room → ⊥) → replayed (at + 1) room K (before ++ s ∷ after) ≡ Err ((at + 1) + length before))
        → or_refused o at (λ K. replayed (at + 1) room K (before ++ s ∷ after)) ≡ Err (at + length (b ∷ before))
    on None is refused later = absurd cc
    on (Some K) is refused later = later K is (λ h k. refused h (omega (arith, k))) ∙ ap (λ (k : ℕ). Err k) same

longer : (xs : List Step) (s : Step) → length (xs ++ s ∷ []) ≡ length xs + 1
longer [] s = refl
longer (x ∷ xs) s = let h = longer xs s in omega (arith, h)

refused_is : (setup : Opening) (steps : List Step) (at : ℕ) → IsRefusedAt setup steps at → replayed 0 setup.budget (opening setup) steps ≡ Err at
refused_is setup steps at r =
    let counted : 0 + length r.before ≡ at = omega (arith, r.counted) in
    ap (replayed 0 setup.budget (opening setup)) r.parts
    ∙ refuses r.before r.step r.after 0 setup.budget (opening setup) r.run.0 r.run.1 (λ is le. r.no_run (is, omega (arith, le, longer r.before r.step)))
    ∙ ap (λ (k : ℕ). Err k) counted

-- after these steps one is refused, the first step having this number
record Stops (at room : ℕ) (M : State) (steps : List Step) (place : ℕ) : Type 0 where
  pub before : List Step
  pub step : Step
  pub after : List Step
  pub parts : steps ≡ before ++ step ∷ after
  pub counted : place ≡ at + length before
  pub run : IsSome (replay M before)
  pub within : length before ≤ room
  pub no_run : IsSome (replay M (before ++ step ∷ [])) → length before + 1 ≤ room → ⊥

not-allowed : (o : Option State) → o ≡ None → IsSome (option_and_then (λ K. Some K) o) → ⊥
not-allowed None e h = cc
not-allowed (Some K) e h = cc

stops : (steps : List Step) (at room : ℕ) (M : State) (place : ℕ) → replayed at room M steps ≡ Err place → Stops at room M steps place
stops [] at room M place e = absurd cc
stops (s ∷ steps) at zero M place e =
    let same : at ≡ place = cc in
    record { before = []; step = s; after = steps; parts = refl; counted = omega (arith, same); run = refl; within = omega arith; no_run = λ is le. omega (arith, le) }
stops (s ∷ steps) at (suc room) M place e = on (next M s) refl e (λ K h. stops steps (at + 1) room K place h)
  where
    on : (o : Option State) → next M s ≡ o → or_refused o at (λ K. replayed (at + 1) room K steps) ≡ Err place → ((K : State) → replayed (at + 1) room K steps ≡ Err place → Stops (at + 1) room K steps place) → Stops at (suc room) M (s ∷ steps) place
    on None is e later =
        let same : at ≡ place = cc in
        record {
          before = [];
          step = s;
          after = steps;
          parts = refl;
          counted = omega (arith, same);
          run = refl;
          within = omega arith;
          no_run = λ h le. not-allowed (next M s) is h;
        }
    on (Some K) is e later =
        let r = later K e in
        let counted = r.counted in
        let within = r.within in
        record {
          before = s ∷ r.before;
          step = r.step;
          after = r.after;
          parts = ap (λ t. s ∷ t) r.parts;
          counted = omega (arith, counted);
          run = subst (λ o. IsSome (option_and_then (λ N. replay N r.before) o)) (sym is) r.run;
          within = omega (arith, within);
          no_run = λ h le. r.no_run (subst (λ o. IsSome (option_and_then (λ N. replay N (r.before ++ r.step ∷ [])) o)) is h) (omega (arith, le));
        }

stops_at : (setup : Opening) (steps : List Step) (at : ℕ) → replayed 0 setup.budget (opening setup) steps ≡ Err at → IsRefusedAt setup steps at
stops_at setup steps at e =
    let r = stops steps 0 setup.budget (opening setup) at e in
    let counted = r.counted in
    let long = longer r.before r.step in
    record {
      before = r.before;
      step = r.step;
      after = r.after;
      parts = r.parts;
      counted = omega (arith, counted);
      run = (r.run, r.within);
      no_run = λ is. r.no_run is.0 (omega (arith, is.1, long));
    }

-- ---- the whole

abbrev with_states : Ran → Option ℕ → Result Ran Fault
with_states m None = Ok m
with_states m (Some at) = Err (StatesDiffer at)

-- what stands in front of this end of the text
abbrev in_front : List ℕ → List ℕ → List ℕ
in_front text behind = take (length text - length behind) text

front_is : (text front behind : List ℕ) → text ≡ front ++ behind → in_front text behind ≡ front
front_is text front behind parts =
    let long = ap length parts ∙ length-append front behind in
    let count : length text - length behind ≡ length front = omega (arith, long) in
    rw (count, parts) (take-append_seam front behind)

-- nothing stands behind the record, or what is wanted
abbrev compared : Ran → List ℕ → List ℕ → List ℕ → Result Ran Fault
compared m text [] wanted = Ok m
compared m text (x ∷ xs) wanted = with_states m (differ 0 text (in_front text (x ∷ xs) ++ wanted))

abbrev with_replay : Opening → List ℕ → List Step → List ℕ → Result State ℕ → Result Ran Fault
with_replay setup text steps behind (Err at) = Err (NotARun at)
with_replay setup text steps behind (Ok M) = compared (record { setup = setup; steps = steps }) text behind (states_of M setup.shows (end_of M setup.budget))

abbrev with_record : Opening → List ℕ → Result (List Step × List ℕ) ℕ → Result Ran Fault
with_record setup text (Err line) = Err (BadRecord line)
with_record setup text (Ok (steps, behind)) = with_replay setup text steps behind (replayed 0 setup.budget (opening setup) steps)

abbrev pub checked : Opening → List ℕ → Result Ran Fault
checked setup text = with_record setup text (record_at text)

module _ (setup : Opening) (text : List ℕ) where
  abbrev run_with : List Step → Ran
  run_with steps = record { setup = setup; steps = steps }

  -- ---- what is found is what is computed

  read-steps : (format : Format) (steps : List Step) (behind : List ℕ) → AreSteps steps → text ≡ spelling format steps ++ behind → checked setup text ≡ with_replay setup text steps behind (replayed 0 setup.budget (opening setup) steps)
  read-steps format steps behind are parts = ap (with_record setup text) (ap record_at parts ∙ record_again format steps behind are)

  run-states : (steps : List Step) (behind states : List ℕ) → BeginsWithRun (run_with steps) text behind → TellsEnd (run_with steps) states → checked setup text ≡ compared (run_with steps) text behind states
  run-states steps behind states b t =
      read-steps b.format steps behind b.recorded b.parts
      ∙ ap (with_replay setup text steps behind) (replays steps 0 setup.budget (opening setup) t.last b.run.1 t.there)
      ∙ ap (compared (run_with steps) text behind) (ap (states_of t.last setup.shows) (sym (end-is t.last setup.budget t.end t.ended)) ∙ sym t.told)

  run-alone : (steps : List Step) (behind : List ℕ) → BeginsWithRun (run_with steps) text behind → behind ≡ [] → (o : Option State) → replay (opening setup) steps ≡ o → IsSome o → checked setup text ≡ Ok (run_with steps)
  run-alone steps behind b none None is some = absurd cc
  run-alone steps behind b none (Some M) is some =
      read-steps b.format steps behind b.recorded b.parts
      ∙ ap (with_replay setup text steps behind) (replays steps 0 setup.budget (opening setup) M b.run.1 is)
      ∙ ap (λ bs. compared (run_with steps) text bs (states_of M setup.shows (end_of M setup.budget))) none

  same-compared : (m : Ran) (front behind : List ℕ) → text ≡ front ++ behind → compared m text behind behind ≡ Ok m
  same-compared m front [] parts = refl
  same-compared m front (x ∷ xs) parts =
      ap (λ t. with_states m (differ 0 text (t ++ x ∷ xs))) (front_is text front (x ∷ xs) parts)
      ∙ ap (λ t. with_states m (differ 0 t (front ++ x ∷ xs))) parts
      ∙ ap (with_states m) (differ-same 0 (front ++ x ∷ xs))

  run-is : (steps : List Step) → RecordsRun (run_with steps) text → checked setup text ≡ Ok (run_with steps)
  run-is steps r = on r.states
    where
      on : (r.behind ≡ []) ⊎ TellsEnd (run_with steps) r.behind → checked setup text ≡ Ok (run_with steps)
      on (inl none) = run-alone steps r.behind r.begins none (replay (opening setup) steps) refl r.begins.run.0
      on (inr tells) = run-states steps r.behind r.behind r.begins tells ∙ same-compared (run_with steps) (spelling r.begins.format steps) r.behind r.begins.parts

  other-compared : (m : Ran) (at : ℕ) (front behind states : List ℕ) → text ≡ front ++ behind → behind ≢ [] → differ 0 text (front ++ states) ≡ Some at → compared m text behind states ≡ Err (StatesDiffer at)
  other-compared m at front [] states parts some e = absurd (some refl)
  other-compared m at front (x ∷ xs) states parts some e =
      ap (λ t. with_states m (differ 0 text (t ++ states))) (front_is text front (x ∷ xs) parts) ∙ ap (with_states m) e

  differ-is : (steps : List Step) (at : ℕ) → StatesDifferAt (run_with steps) text at → checked setup text ≡ Err (StatesDiffer at)
  differ-is steps at d =
      let same : 0 + at ≡ at = omega arith in
      run-states steps d.behind d.states d.begins d.tells
      ∙ other-compared (run_with steps) at (spelling d.begins.format steps) d.behind d.states d.begins.parts d.some (differ-found 0 at text (spelling d.begins.format steps ++ d.states) d.differ ∙ ap Some same)

  own : (m : Ran) → m.setup ≡ setup → RecordsRun m text → Ok m ≡ checked setup text
  own m same r =
      let is : m ≡ run_with m.steps = ap (λ (S : Opening). record { setup = S; steps = m.steps }) same in
      ap (λ (n : Ran). Ok n) is ∙ sym (run-is m.steps (subst (λ (n : Ran). RecordsRun n text) is r))

  pub is_checked : (found : Result Ran Fault) → Finds setup text found → found ≡ checked setup text
  is_checked (Ok m) f = own m f.0 f.1
  is_checked (Err (BadRecord line)) f = sym (ap (with_record setup text) (record_faulted text line f))
  is_checked (Err (NotARun at)) f = sym (read-steps f.format f.steps f.behind f.recorded f.parts ∙ ap (with_replay setup text f.steps f.behind) (refused_is setup f.steps at f.refused))
  is_checked (Err (StatesDiffer at)) f = sym (differ-is f.0 at f.1)
  is_checked (Err fault) f = absurd f

  -- ---- what is computed is found

  same-behind : (format : Format) (steps : List Step) (behind states : List ℕ) → AreSteps steps → spelling format steps ++ behind ≡ spelling format steps ++ states → behind ≡ states
  same-behind format steps behind states are e =
      let one = record_again format steps behind are in
      let two = record_again format steps states are in
      let both : ◌≡◌ {A = Result (List Step × List ℕ) ℕ} (Ok (steps, behind)) (Ok (steps, states)) = sym one ∙ ap record_at e ∙ two in
      let same : ◌≡◌ {A = List Step × List ℕ} (steps, behind) (steps, states) = cc in
      ap (λ (x : List Step × List ℕ). x.1) same

  finds-states : (steps : List Step) (behind states : List ℕ) → BeginsWithRun (run_with steps) text behind → TellsEnd (run_with steps) states → (found : Result Ran Fault) → compared (run_with steps) text behind states ≡ found → Finds setup text found
  finds-states steps [] states b t found is =
      subst (Finds setup text) is (refl, record { behind = []; begins = b; states = inl refl })
  finds-states steps (x ∷ xs) states b t found is =
      on (differ 0 text (spelling b.format steps ++ states)) refl (ap (λ (front : List ℕ). with_states (run_with steps) (differ 0 text (front ++ states))) (sym (front_is text (spelling b.format steps) (x ∷ xs) b.parts)) ∙ is)
    where
      on : (o : Option ℕ) → differ 0 text (spelling b.format steps ++ states) ≡ o → with_states (run_with steps) o ≡ found → Finds setup text found
      on None same is =
          let whole = none-differ 0 text (spelling b.format steps ++ states) same in
          let behind : x ∷ xs ≡ states = same-behind b.format steps (x ∷ xs) states b.recorded (sym b.parts ∙ whole) in
          subst (Finds setup text) is (refl, record { behind = x ∷ xs; begins = b; states = inr (subst (TellsEnd (run_with steps)) (sym behind) t) })
      on (Some at) differ-at is =
          let d = differs 0 at text (spelling b.format steps ++ states) differ-at in
          let number = d.1 in
          let same : d.0 ≡ at = omega (arith, number) in
          subst (Finds setup text) is (
            steps,
            record {
              behind = x ∷ xs;
              states = states;
              begins = b;
              some = λ e. cc;
              tells = t;
              differ = subst (λ k. DifferAt k text (spelling b.format steps ++ states)) same d.2;
            },
          )

  finds-replay : (format : Format) (steps : List Step) (behind : List ℕ) → AreSteps steps → text ≡ spelling format steps ++ behind → (r : Result State ℕ) → replayed 0 setup.budget (opening setup) steps ≡ r → Finds setup text (with_replay setup text steps behind r)
  finds-replay format steps behind are parts (Err at) is = record { format = format; steps = steps; behind = behind; recorded = are; parts = parts; refused = stops_at setup steps at is }
  finds-replay format steps behind are parts (Ok M) is =
      let runs = is-replayed steps 0 setup.budget (opening setup) M is in
      let long = run-length setup steps M runs.0 in
      let within = runs.1 in
      finds-states steps behind (states_of M setup.shows (end_of M setup.budget)) (record { format = format; run = (ap is_some runs.0, runs.1); recorded = are; parts = parts })
      (record { last = M; end = end_of M setup.budget; there = runs.0; ended = is-end M setup.budget (omega (arith, long, within)); told = refl }) _ refl

  finds-record : (r : Result (List Step × List ℕ) ℕ) → record_at text ≡ r → Finds setup text (with_record setup text r)
  finds-record (Err line) is = record_faults text line is
  finds-record (Ok (steps, behind)) is = let t = record_takes text (steps, behind) is in finds-replay t.1.0 steps behind t.0 t.1.1 (replayed 0 setup.budget (opening setup) steps) refl

  pub finds : Finds setup text (checked setup text)
  finds = finds-record (record_at text) refl
