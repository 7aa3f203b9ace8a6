-- The verdict on a run, and a run without a race in each of its reorderings.
use Rattle.std.proofs.Common.{◌≡◌, ℕ, zero, suc, ◌+◌, ◌<◌, ◌≤◌, ◌^◌, List, [], ◌∷◌, ◌++◌, arith, length, take, Option, Some, None, refl, sym, ap, ◌∙◌, subst}
use Rattle.std.specs.Prelude.{slice_get}
use Rattle.std.proofs.lemmas.List.{length-map, length_push, take-append-le, take_all}
use Rattle.std.proofs.lemmas.Option.{slice_get_within}
use Rattle.cell_base.specs.declared.steps.Step.{Step}
use Rattle.cell_machine.specs.Opening.{Opening}
use Rattle.cell_machine.proofs.Same.{get-last}
use Rattle.cell_machine.specs.Opening.{opening}
use Rattle.cell_machine.specs.Run.{Ran, IsRun}
use Rattle.cell_machine.specs.Sound.{byte_of}
use Rattle.cell_machine.specs.Traces.{trace_of}
use Rattle.cell_machine.specs.declared.effect.Effect.{Effect}
use Rattle.cell_machine.specs.Effects.{effect_in}
use Rattle.cell_machine.proofs.Same.{some_same}
use Rattle.race_order.specs.Rules.{Rule, Ordered}
use Rattle.race_order.specs.Told.{trace_in}
use Rattle.race_order.proofs.OrderedRuns.{follows}
use Rattle.run_walk.specs.declared.walk.Walk.{Walk}
use Rattle.run_walk.specs.Walks.{IsLast, Stands, walked}
use Rattle.run_walk.proofs.Walking.{walk-few, walk-told}
use Rattle.race_check.specs.declared.check.Verdict.TheVariants.{Accepted, Race as Racing}
use Rattle.race_check.specs.Races.{access_of, IsFirst, IsLeast, IsVerdict, Race, RaceBy, TellsLatest}
use Rattle.race_check.specs.Walks.{IsOrdered, accesses_in, RaceIn}
use Rattle.race_check.specs.Reorderings.{EveryReorderingAgrees, KeepsOrder}
use Rattle.race_check.proofs.Agree.{agrees}
use Rattle.race_check.proofs.Prefixes.{access-within, accesses-long, first_of, run-acted, run-told, trace-first, trace_in-first}
use Rattle.race_check.proofs.Checks.{least_next, least_whole, none_next, shows_none, shows_whole}
use Rattle.race_check.specs.declared.access.Access.{Access}
use Rattle.race_check.specs.declared.search.Search.{Search}
use Rattle.race_check.specs.Shows.{Shows, TakesStep}
use Rattle.race_check.specs.Searches.{IsClear, Keeps, run_of, with_step}

-- the run has the trace that is told
abbrev pub IsTold : Ran → Type 0
IsTold m = trace_of m ≡ Some (trace_in m)

module _ (m : Ran) (is : trace_of m ≡ Some (trace_in m)) where
  -- the races of the run are those of its trace
  pub accepted : ((i j : ℕ) → RaceIn m i j → ⊥) → IsVerdict m Accepted
  accepted none = record { trace = trace_in m; is = is; so = none }

  pub raced : (i j : ℕ) → IsLeast (RaceIn m) i j → IsVerdict m (Racing i j)
  raced i j least = record { trace = trace_in m; is = is; so = least }

  pub every-reordering-agrees : ((i j : ℕ) → RaceIn m i j → ⊥) → EveryReorderingAgrees m
  every-reordering-agrees none =
      let r = run-acted m is in
      let many : length r.0 ≡ length (trace_in m) = sym (length-map r.0 (λ a. access_of a.effect)) ∙ ap length r.2 ∙ length-map (trace_in m) (λ e. access_of e.effect) in
      record {
        trace = trace_in m;
        is = is;
        made = r.0;
        are = r.1;
        agree = λ order keeps.
            agrees (Ordered Rule (trace_in m)) (byte_of (opening m.setup)) r.0 (subst (λ accesses. (i j : ℕ) → RaceBy (Ordered Rule (trace_in m)) accesses i j → ⊥) (sym r.2) none) order
            (subst (λ n. KeepsOrder (Ordered Rule (trace_in m)) n order) (sym many) keeps);
      }

-- the steps of a race are steps of the run
pub race-inside : (m : Ran) → IsTold m → (i j : ℕ) → RaceIn m i j → j < length m.steps
race-inside m is i j race = access-within m (trace_in m) is j race.conflict.second race.conflict.second_at

-- ---- the verdict on the first steps of a run

length-take-most : {X : Type 0} (n : ℕ) (xs : List X) → length (take n xs) ≤ n
length-take-most zero xs = omega arith
length-take-most (suc n) [] = omega arith
length-take-most (suc n) (x ∷ xs) = let rest = length-take-most n xs in omega (arith, rest)

-- a verdict is on the run's trace
least_of : (m : Ran) (i j : ℕ) → (is : trace_of m ≡ Some (trace_in m)) → IsVerdict m (Racing i j) → IsLeast (RaceIn m) i j
least_of m i j is v = subst (λ trace. IsLeast (Race trace) i j) (some_same v.trace (trace_in m) (sym v.is ∙ is)) v.so

-- a race of the first steps is the least of all
pub raced-whole : (m w : Ran) (n i j : ℕ) → IsRun m.setup m.steps → w ≡ first_of m n → IsVerdict w (Racing i j) → IsVerdict m (Racing i j)
raced-whole m w n i j run made v =
    let is = run-told m run in
    let first : trace_of w ≡ Some (trace_in w) = subst (λ r. trace_of r ≡ Some (trace_in r)) (sym made) (trace-first m n is ∙ ap Some (sym (trace_in-first m n is))) in
    let low : j < length w.steps = access-within w v.trace v.is j v.so.holds.conflict.second v.so.holds.conflict.second_at in
    let few : length w.steps ≤ n = subst (λ (r : Ran). length r.steps ≤ n) (sym made) (length-take-most n m.steps) in
    raced m is i j (least_whole m is n w made i j (omega arith) (least_of w i j first v))

-- ---- a search

-- its run has a trace
pub search-told : (s : Search) → Keeps s → IsTold (run_of s)
search-told s keeps = walk-told s.walk keeps.stands

-- its run has no race
pub clear : (s : Search) → Keeps s → ((i j : ℕ) → RaceIn (run_of s) i j → ⊥) → IsClear s
clear s keeps none =
    let is = search-told s keeps in
    record { accepted = accepted (run_of s) is none; agree = every-reordering-agrees (run_of s) is none; none = none; keeps = keeps }

-- before the first step
pub clear-none : (s : Search) (setup : Opening) → run_of s ≡ record { setup = setup; steps = [] } → Stands s.walk → s.shadow.lists.items ≡ [] → s.accesses.items ≡ [] → IsClear s
clear-none s setup start stands empty none =
    let m : Ran = run_of s in
    let is = walk-told s.walk stands in
    let steps : m.steps ≡ [] = ap (λ (r : Ran). r.steps) start in
    let long : length (accesses_in m) ≡ 0 = accesses-long m is ∙ ap length steps in
    let zero : 0 ≡ length m.steps = sym (ap length steps) in
    clear s record {
      stands = stands;
      accesses = none ∙ sym (nothing (accesses_in m) long);
      shows = subst (Shows (IsOrdered m) (accesses_in m) s.shadow) zero (shows_none (IsOrdered m) (accesses_in m) s.shadow empty);
    } (λ i j race. absurd (let low = slice_get_within (accesses_in m) j race.conflict.second race.conflict.second_at in omega (arith, low, long)))
  where
    nothing : (xs : List Access) → length xs ≡ 0 → xs ≡ []
    nothing [] e = refl
    nothing (x ∷ xs) e = absurd (omega (arith, e))

-- it has an access for each step
pub counted : (s : Search) → Keeps s → length s.accesses.items ≡ length (run_of s).steps
counted s keeps = ap length keeps.accesses ∙ accesses-long (run_of s) (search-told s keeps)

-- fewer than the budget, where one more is allowed
pub counted-few : (s : Search) (step : Step) (e : Effect) → Keeps s → effect_in (run_of s) step ≡ Some e → length s.accesses.items < 2 ^ 32
counted-few s step e keeps effect =
    let low = (follows (run_of s) step e effect).within in
    let budget = walk-few s.walk keeps.stands in
    let long = counted s keeps in
    omega (arith, low, budget, long)

-- the place of the step
pub step-at : (s : Search) (walk : Walk) (step : Step) (last : ℕ) → last ≡ length (run_of s).steps → walked walk ≡ record (run_of s) { steps = (run_of s).steps ++ step ∷ [] } → Stands walk → IsLast walk last
step-at s walk step last is made stands =
    let long : length (walked walk).steps ≡ length (run_of s).steps + 1 = ap (λ (r : Ran). length r.steps) made ∙ length_push (run_of s).steps step in
    record { stands = stands; last = omega (arith, is, long) }

-- without the last step a run is the one before it
pub first_steps : (old new : Ran) (step : Step) → new ≡ with_step old step → old ≡ first_of new (length old.steps)
first_steps old new step made =
    let steps = take-append-le (length old.steps) old.steps (step ∷ []) (omega arith) ∙ take_all (length old.steps) old.steps (omega arith) in
    sym (ap (λ (r : Ran). first_of r (length old.steps)) made ∙ ap (λ (xs : List Step). let r : Ran = record old { steps = xs } in r) steps)

-- the search has made one step more, with this access
pub record Advanced (old new : Search) (step : Step) (access : Access) : Type 0 where
  pub keeps : Keeps old
  pub made : run_of new ≡ record (run_of old) { steps = (run_of old).steps ++ step ∷ [] }
  pub stands : Stands new.walk
  pub more : accesses_in (run_of new) ≡ accesses_in (run_of old) ++ access ∷ []
  pub put : new.accesses.items ≡ old.accesses.items ++ access ∷ []

module _ (old new : Search) (step : Step) (access : Access) (a : Advanced old new step access) where
  is : trace_of (run_of new) ≡ Some (trace_in (run_of new))
  is = walk-told new.walk a.stands

  first : run_of old ≡ first_of (run_of new) (length (run_of old).steps)
  first = first_steps (run_of old) (run_of new) step a.made

  long : length (run_of new).steps ≡ length (run_of old).steps + 1
  long = ap (λ (r : Ran). length r.steps) a.made ∙ length_push (run_of old).steps step

  at : slice_get (accesses_in (run_of new)) (length (run_of old).steps) ≡ Some access
  at =
      let many : length (run_of old).steps ≡ length (accesses_in (run_of old)) = sym (accesses-long (run_of old) (search-told old a.keeps)) in
      ap (λ xs. slice_get xs (length (run_of old).steps)) a.more ∙ ap (slice_get (accesses_in (run_of old) ++ access ∷ [])) many ∙ get-last (accesses_in (run_of old)) access

  shown : Shows (IsOrdered (run_of new)) (accesses_in (run_of new)) old.shadow (length (run_of old).steps)
  shown = shows_whole (run_of new) is (length (run_of old).steps) (run_of old) first old.shadow (length (run_of old).steps) (omega arith) a.keeps.shows

  -- the accesses, as they are kept
  pub kept : new.accesses.items ≡ accesses_in (run_of new)
  kept = a.put ∙ ap (λ xs. xs ++ access ∷ []) a.keeps.accesses ∙ sym a.more

  module _ (latest : Option ℕ) (takes : TakesStep (IsOrdered (run_of new)) old.shadow new.shadow access (length (run_of old).steps) latest) where
    pub keeps-more : Keeps new
    keeps-more = record {
      stands = a.stands;
      accesses = kept;
      shows = subst (Shows (IsOrdered (run_of new)) (accesses_in (run_of new)) new.shadow) (sym long) (takes.shows (accesses_in (run_of new)) at shown);
    }

    pub latest-more : TellsLatest (RaceIn (run_of new)) (length (run_of old).steps) latest
    latest-more = takes.told (accesses_in (run_of new)) at shown

-- ---- one step more

module _ (old new : Search) (step : Step) (clear-old : IsClear old) (keeps : Keeps new) (made : run_of new ≡ with_step (run_of old) step) where
  told : trace_of (run_of new) ≡ Some (trace_in (run_of new))
  told = search-told new keeps

  front : run_of old ≡ first_of (run_of new) (length (run_of old).steps)
  front = first_steps (run_of old) (run_of new) step made

  -- it races with none
  pub clear-more : TellsLatest (RaceIn (run_of new)) (length (run_of old).steps) None → IsClear new
  clear-more none =
      let long : length (run_of new).steps ≡ length (run_of old).steps + 1 = ap (λ (r : Ran). length r.steps) made ∙ length_push (run_of old).steps step in
      clear new keeps (none_next (run_of new) (run_of old) told (length (run_of old).steps) front clear-old.none (omega (arith, long)) none)

  -- this is the first one that it races with
  pub raced-more : (i : ℕ) → IsFirst (RaceIn (run_of new)) i (length (run_of old).steps) → IsVerdict (run_of new) (Racing i (length (run_of old).steps))
  raced-more i of = raced (run_of new) told i (length (run_of old).steps) (least_next (run_of new) (run_of old) told (length (run_of old).steps) front clear-old.none i of)

-- there is a race where the latest is told
pub has-race : (R : ℕ → ℕ → Type 0) (j : ℕ) (latest : Option ℕ) → (latest ≡ None → ⊥) → TellsLatest R j latest → (i : ℕ) × R i j
has-race R j None some tells = absurd (some refl)
has-race R j (Some i) some tells = (i, tells.holds)
