-- Every reordering of a settled run without a race is a run again.
use Rattle.std.proofs.Common.{◌≡◌, ℕ, zero, suc, ◌<◌, ◌≤◌, refl, sym, ◌∙◌, ap, subst, arith, Bool, true, false, List, [], ◌∷◌, length, map, Some, inl, inr}
use Rattle.std.specs.Prelude.{slice_get, ◌||◌, ◌==◌, ◌⊎◌, is_some}
use Rattle.std.specs.List.{range_with_len, filter_map, cons_option}
use Rattle.std.proofs.lemmas.Bool.{eq-eqb}
use Rattle.std.proofs.lemmas.List.{length-map, take_all}
use Rattle.std.proofs.lemmas.List.FromFn.{length-range_with_len}
use Rattle.std.proofs.lemmas.List.Sorted.{length_permutation}
use Rattle.cell_base.specs.declared.steps.Step.{Step}
use Rattle.cell_base.specs.declared.steps.Step.TheVariants.{Exec, Piece, Elem, Retire, Atomic, Host}
use Rattle.cell_machine.specs.State.{State}
use Rattle.cell_machine.specs.Opening.{opening}
use Rattle.cell_machine.specs.Limits.{IsOpening}
use Rattle.cell_machine.specs.Run.{Ran, IsRun, replay}
use Rattle.cell_machine.specs.Sound.{IsSound}
use Rattle.cell_machine.specs.Traces.{Event}
use Rattle.cell_machine.proofs.Sounds.{runs-are-sound}
use Rattle.cell_machine.proofs.Replays.{run-length}
use Rattle.cell_machine.proofs.Same.{some_same}
use Rattle.race_order.specs.Told.{trace_in}
use Rattle.reorder_laws.specs.OrderedLaws.{IsOrdered}
use Rattle.race_order.proofs.OrderedRuns.{trace-is, trace-long}
use Rattle.race_check.specs.Races.{access_of, Race}
use Rattle.race_check.proofs.Prefixes.{run-told}
use Rattle.race_check.specs.Reorderings.{KeepsOrder, IsReordering, at_places}
use Rattle.reorder_laws.specs.Cuts.{has}
use Rattle.reorder_laws.specs.Recorded.{Recorded, IsRecorded, spe_before}
use Rattle.reorder_laws.specs.OrderLaws.{Orders, OrdersElements}
use Rattle.cell_machine.specs.Moves.{is_complete}
use Rattle.cell_machine.specs.Order.{is_step_of}
use Rattle.reorder_laws.specs.Described.{Describes}
use Rattle.reorder_laws.specs.Facts.{OwedListsRest, QueuesHaveRoom}
use Rattle.reorder_laws.specs.Laws.{AtomicsChain}
use Rattle.reorder_laws.specs.Recording.{Records}
use Rattle.reorder_laws.specs.Settled.{IsSettled}
use Rattle.reorder_laws.specs.Steps.{MakesStep, StepsAlike, Reaches}
use Rattle.reorder_laws.specs.Theorem.{IsSameEnd, IsRunAgain, SettledRunsReorder}
use Rattle.reorder_laws.proofs.Bytes.{IsFree}
use Rattle.reorder_laws.proofs.Stalls.{stalled-more}
use Rattle.reorder_laws.proofs.AtomicSteps as AtomicSteps
use Rattle.reorder_laws.proofs.HostSteps as HostSteps
use Rattle.reorder_laws.proofs.Copying as Copying
use Rattle.reorder_laws.proofs.Instructing as Instructing
use Rattle.reorder_laws.proofs.Reading as Reading
use Rattle.reorder_laws.proofs.Retiring as Retiring
use Rattle.reorder_laws.proofs.LinesSeen.{lines_seen}
use Rattle.reorder_laws.proofs.Ending.{same_end}
use Rattle.reorder_laws.proofs.Recording.{recording, records, recorded, recorded-lines}
use Rattle.reorder_laws.proofs.Runs.{order_reached, recorded_reached, order_bytes}
use Rattle.reorder_laws.proofs.SettledFacts.{HasFacts, has-facts}
use Rattle.reorder_laws.proofs.Owing.{HandlesOne, owed_lists_rest}
use Rattle.reorder_laws.proofs.OneStall.{instructions_see, instructions_leave}
use Rattle.reorder_laws.proofs.StallFacts.{handles_recorded, handles_ordered, orders_recorded, lists_recorded}
use Rattle.reorder_laws.proofs.Starting.{describes_start, masked_start}

-- what the steps need of an order: its rules, room in the queue, and stalls that are handled one by one
record HasOrder (Before : ℕ → ℕ → Type 0) (r : Recorded) : Type 0 where
  orders : Orders Before r
  lists : OrdersElements Before r
  room : QueuesHaveRoom Before r
  chain : AtomicsChain Before r
  handles : HandlesOne Before r

-- each kind of step
steps_alike : (m : Ran) (r : Recorded) → IsRecorded r → HasFacts m r → (Before : ℕ → ℕ → Type 0) → HasOrder Before r → IsFree r Before → StepsAlike Before r
steps_alike m r rec facts Before rules free D j M front d shown bytes = on (r.step j) refl
  where
    owed : OwedListsRest Before r
    owed = owed_lists_rest r rec facts.frames facts.faultless Before rules.orders rules.handles

    on : (s : Step) → r.step j ≡ s → MakesStep r D j M
    on (Exec p) e = Instructing.makes r rec facts.frames Before rules.orders (instructions_see r rec facts.frames facts.faultless Before rules.orders rules.handles) (instructions_leave r rec facts.frames facts.faultless Before rules.orders rules.handles) facts.requests facts.tags facts.unasked facts.faultless rules.chain facts.fit rules.room facts.counts facts.hears D j M p front d shown bytes e
    on (Piece p c n k) e = Copying.makes r rec facts.frames facts.faultless facts.requests facts.tags Before rules.orders rules.lists stalled-more owed facts.sends D j M front d shown bytes p c n k e
    on (Elem p c) e = Reading.makes r rec facts.frames facts.faultless facts.requests facts.tags Before rules.orders rules.lists stalled-more owed D j M front d shown bytes p c e
    on (Retire p c) e = Retiring.makes r rec facts.frames facts.faultless facts.requests facts.tags Before rules.orders D j M front d shown p c e
    on (Atomic p) e = AtomicSteps.makes r rec facts.frames facts.faultless Before rules.orders rules.chain D j M front d shown bytes p e (λ a slot. lines_seen r rec facts.frames Before free D j M p a front d shown e slot)
    on Host e = HostSteps.makes r rec facts.frames facts.faultless facts.fit facts.silent_host Before rules.orders D j M front d shown bytes e

-- the steps at some places
or_true : (x : Bool) → (x || true) ≡ true
or_true true = refl
or_true false = refl

places_are : {X : Type 0} (xs : List X) (f : ℕ → X) (order : List ℕ) → ((i : ℕ) → has order i ≡ true → slice_get xs i ≡ Some (f i)) → at_places xs order ≡ map f order
unfolding has
places_are xs f [] h = refl
places_are xs f (k ∷ order) h =
    ap (λ o. cons_option o (filter_map (slice_get xs) order)) (h k (ap (λ b. b || has order k) (eq-eqb k k refl)))
    ∙ ap (λ ys. f k ∷ ys) (places_are xs f order (λ i e. h i (ap (λ b. (k == i) || b) e ∙ or_true (k == i))))

get_map : {X Y : Type 0} (f : X → Y) (xs : List X) (i : ℕ) (x : X) → slice_get xs i ≡ Some x → slice_get (map f xs) i ≡ Some (f x)
get_map f [] i x e = absurd (cc)
get_map f (y ∷ xs) zero x e = let q : y ≡ x = cc in ap (λ y. Some (f y)) q
get_map f (y ∷ xs) (suc i) x e = get_map f xs i x e

-- no two unordered steps conflict
free_of : (m : Ran) (r : Recorded) → Records m r → ((i j : ℕ) → Race (trace_in m) i j → ⊥) → IsFree r (IsOrdered m)
free_of m r of none i j less low unordered conflict =
    none i j record {
      below = less;
      unordered = unordered;
      conflict = record {
        first = access_of (r.effect i);
        second = access_of (r.effect j);
        first_at = get_map (λ (e : Event). access_of e.effect) (trace_in m) i (record { step = r.step i; effect = r.effect i }) (of.event i (omega (arith, less, low)));
        second_at = get_map (λ (e : Event). access_of e.effect) (trace_in m) j (record { step = r.step j; effect = r.effect j }) (of.event j low);
        conflict = conflict;
      };
    }

module _ (m : Ran) (opens : IsOpening m.setup) (run : IsRun m.setup m.steps) (none : (i j : ℕ) → Race (trace_in m) i j → ⊥) (settled : IsSettled m) where
  abbrev r : Recorded
  r = recording m

  of : Records m (recording m)
  of = records m run

  abbrev rec : IsRecorded (recording m)
  rec = recorded m run opens

  facts : HasFacts m (recording m)
  facts = has-facts m (recording m) run settled of (recorded m run opens)

  start : Describes (recording m) [] ((recording m).state 0)
  start = describes_start (recording m) m.setup of.start

  sound : (D : List ℕ) (M : State) → replay ((recording m).state 0) (map (recording m).step D) ≡ Some M → (n : ℕ) × IsSound (recorded m run opens).lines n M
  sound D M e = (
    length (map (recording m).step D),
    subst (λ lines. IsSound lines (length (map (recording m).step D)) M) (sym (recorded-lines m run opens))
        (runs-are-sound m.setup (map (recording m).step D) M opens (ap (λ S. replay S (map (recording m).step D)) (sym of.start) ∙ e)),
  )

  free : IsFree (recording m) (IsOrdered m)
  free = free_of m (recording m) of none

  -- in the recorded order the steps are alike, so each recorded state is described
  alike_recorded : StepsAlike (λ i j. i < j) (recording m)
  alike_recorded =
      steps_alike m (recording m) (recorded m run opens) facts (λ i j. i < j) record {
        orders = orders_recorded (recording m);
        lists = lists_recorded (recording m);
        room = λ j p c d low low_p s note.
            let h = facts.room j p c d low low_p s note in
            record { unclosed = h.unclosed; few = h.few; closed = λ b less. closed_recorded j p b (has h.unclosed b ≡ true) (h.closed b less) };
        chain = λ i j p less low a b. less;
        handles = handles_recorded m (recording m) run settled of (recorded m run opens) facts;
      } (λ i j less low unordered conflict. unordered less)
    where
      closed_recorded : (j p b : ℕ) (X : Type 0) → X ⊎ ((is_complete (spe_before (recording m) p j).moves b ≡ true) × ((i : ℕ) → i < (recording m).size → is_step_of p b ((recording m).step i) ≡ true → IsOrdered m i j))
          → X ⊎ ((is_complete (spe_before (recording m) p j).moves b ≡ true) × ((i : ℕ) → i < (recording m).size → is_step_of p b ((recording m).step i) ≡ true → i < j))
      closed_recorded j p b X (inl x) = inl x
      closed_recorded j p b X (inr h) = inr (h.0, λ i low of. facts.orders.below i j (h.1 i low of))

  described : (j : ℕ) → j ≤ (recording m).size → Describes (recording m) (range_with_len 0 j) ((recording m).state j)
  described j low = (recorded_reached (recording m) (recorded m run opens) (λ i j. i < j) (λ i j a. a) alike_recorded start sound j low).describes

  -- so the steps are alike in each order that keeps the ordered pairs
  alike : StepsAlike (IsOrdered m) (recording m)
  alike =
      steps_alike m (recording m) (recorded m run opens) facts (IsOrdered m) record {
        orders = facts.orders;
        lists = facts.lists;
        room = facts.room;
        chain = facts.chain;
        handles = handles_ordered m (recording m) run settled of (recorded m run opens) facts described;
      } free

  module _ (order : List ℕ) (reorders : IsReordering (trace_in m) order) where
    keeps : KeepsOrder (IsOrdered m) (recording m).size order
    keeps = subst (λ n. KeepsOrder (IsOrdered m) n order) (trace-long (opening m.setup) m.steps (trace_in m) (run-told m run) ∙ sym of.size) reorders

    reached : (M : State) × Reaches (recording m) order M
    reached = order_reached (recording m) (recorded m run opens) (IsOrdered m) facts.orders.below alike start sound free order keeps

    steps_are : at_places m.steps order ≡ map (recording m).step order
    steps_are = places_are m.steps (recording m).step order (λ i h. of.step i (reached.1.describes.inside i h))

    replayed : replay (opening m.setup) (at_places m.steps order) ≡ Some reached.0
    replayed = ap (replay (opening m.setup)) steps_are ∙ ap (λ S. replay S (map (recording m).step order)) (sym of.start) ∙ reached.1.run

    long : length (at_places m.steps order) ≡ length m.steps
    long =
        ap length steps_are ∙ length-map order (recording m).step ∙ length_permutation (range_with_len 0 (recording m).size) order keeps.each_once
        ∙ length-range_with_len 0 (recording m).size ∙ of.size

    last : replay (opening m.setup) m.steps ≡ Some ((recording m).state (recording m).size)
    last = ap (replay (opening m.setup)) (sym (take_all (recording m).size m.steps (omega (arith, of.size)))) ∙ of.at (recording m).size (omega arith)

    same : IsSameEnd ((recording m).state (recording m).size) reached.0
    same =
        let here = recorded_reached (recording m) (recorded m run opens) (IsOrdered m) facts.orders.below alike start sound (recording m).size (omega arith) in
        let ok = sound order reached.0 reached.1.run in
        same_end (recording m) facts.frames (IsOrdered m) order keeps reached.0 reached.1.describes here.describes (recorded m run opens) ok.0 ok.1
        (order_bytes (recording m) (recorded m run opens) (IsOrdered m) facts.orders.below alike start sound free order keeps reached.0 reached.1)
        (masked_start (recording m) m.setup of.start)
        (run-length m.setup m.steps ((recording m).state (recording m).size) last ∙ sym long ∙ sym (run-length m.setup (at_places m.steps order) reached.0 replayed))

    pub run_again : IsRunAgain m order
    run_again = record {
      run = (ap is_some replayed, omega (arith, long, run.1));
      ends = λ M N at_M at_N. subst (λ M. IsSameEnd M N) (some_same _ M (sym last ∙ at_M)) (subst (IsSameEnd ((recording m).state (recording m).size)) (some_same reached.0 N (sym replayed ∙ at_N)) same);
    }

-- the theorem
pub settled-runs-reorder : SettledRunsReorder
settled-runs-reorder m opens run verdict settled =
    let same : trace_in m ≡ verdict.trace = trace-is m verdict.trace verdict.is in
    record {
      trace = verdict.trace;
      is = verdict.is;
      again = λ order reorders. run_again m opens run (subst (λ trace. (i j : ℕ) → Race trace i j → ⊥) (sym same) verdict.so) settled order (subst (λ trace. IsReordering trace order) (sym same) reorders);
    }
