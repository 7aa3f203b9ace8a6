-- The trace of every run is orderly, and tells how far each command has come.
use Rattle.std.proofs.Common.{◌≡◌, ℕ, suc, ◌+◌, List, [], ◌∷◌, ◌++◌, length, arith, refl, sym, ◌∙◌, ap, subst, true≢false, append-nil, append_assoc, map}
use Rattle.std.specs.Prelude.{Some, None, slice_get, take, option_map, option_and_then}
use Rattle.std.specs.List.{enumerate_from}
use Rattle.std.proofs.lemmas.List.{length-map}
use Rattle.cell_base.specs.declared.steps.Step.{Step}
use Rattle.mfc_command.specs.declared.command.Command.{Command}
use Rattle.cell_machine.specs.declared.effect.Effect.{Effect}
use Rattle.cell_machine.specs.Traces.{Event, event, trace_from, trace_of}
use Rattle.cell_machine.specs.Spe.{Spe}
use Rattle.cell_machine.specs.State.{State}
use Rattle.cell_machine.specs.Moves.{read_of, is_done}
use Rattle.cell_machine.specs.Tags.{settled}
use Rattle.cell_machine.specs.Next.{next}
use Rattle.cell_machine.specs.Opening.{Opening, opening, opening_spe, no_moves}
use Rattle.cell_machine.specs.Run.{Ran, replay, state_of}
use Rattle.cell_machine.specs.Effects.{effect_of}
use Rattle.cell_machine.proofs.Same.{get-cases, get-within, some_same}
use Rattle.cell_machine.proofs.Alike.{plain, AreAlike, alike-at, alike-length}
use Rattle.cell_machine.proofs.Bounds.{map-got}
use Rattle.cell_machine.proofs.ListSteps.{AreInOrder}
use Rattle.cell_machine.proofs.StepBytes.{of_map, of_then}
use Rattle.race_order.specs.Trace.{Trace}
use Rattle.race_order.specs.Orderly.{MayCome, IsOrderly}
use Rattle.race_order.specs.Premises.{QueueMay, IsQueued}
use Rattle.race_order.specs.RunLaws.{count_of, TracesTell, TracesAreOrderly, StepsMayCome}
use Rattle.race_order.proofs.Small.{get-there}
use Rattle.race_order.proofs.Comings.{Came, came}
use Rattle.race_order.proofs.SpeKeeping.{SpeKeeps, spe-next, take-less, take-all}
use Rattle.race_order.proofs.Mays.{AllKeep, may-come, queue-may}

-- ---- the start

no_order : AreInOrder no_moves
unfolding read_of is_done
no_order = record {
  elements = λ c d at. absurd (no c d at);
  resumed = λ c d at. absurd (no c d at);
  fresh = λ c past. record { read = refl; done = λ e k. refl; retired = refl; resumed = λ e. refl };
}
  where
    no : (c : ℕ) (d : Command) → slice_get [] c ≡ Some d → ⊥
    no c d at = cc

first_keeps : (S : Opening) (x : ℕ × ℕ) (p : ℕ) → SpeKeeps p [] (opening_spe S x)
first_keeps S x p = record {
  still = refl;
  order = no_order;
  fit = record { fits = λ c d at. absurd (no c d at) };
  status = record { issued = λ c. refl; come = λ whole c. refl };
  slot = λ h. absurd (true≢false (sym h));
  inbound = refl;
  outbound = refl;
  interrupt = refl;
  tags = λ whole st h. absurd (none h);
}
  where
    no : (c : ℕ) (d : Command) → slice_get [] c ≡ Some d → ⊥
    no c d at = cc

    none : {X : Type 0} {y : X} → None ≡ Some y → ⊥
    none e = cc

opening_keeps : (S : Opening) → AllKeep [] (opening S).spes
unfolding opening
opening_keeps S = record { each = λ p P at. let g = map-got (opening_spe S) (enumerate_from 0 S.entries) p P at in subst (SpeKeeps p []) g.2 (first_keeps S g.0 p) }

opening-count : (S : Opening) → length (opening S).spes ≡ length S.entries
unfolding opening
opening-count S = length-map (enumerate_from 0 S.entries) (opening_spe S) ∙ numbered 0 S.entries
  where
    numbered : (n : ℕ) (xs : List ℕ) → length (enumerate_from n xs) ≡ length xs
    numbered n [] = refl
    numbered n (x ∷ xs) = ap suc (numbered (n + 1) xs)

-- ---- one more step

-- signal registers and events have nothing to do with it
plain_keeps : (p : ℕ) (trace : Trace) (P : Spe) → SpeKeeps p trace P → SpeKeeps p trace (plain P)
plain_keeps p trace P k = record {
  still = ap plain k.still;
  order = k.order;
  fit = k.fit;
  status = record { issued = k.status.issued; come = k.status.come };
  slot = k.slot;
  inbound = k.inbound;
  outbound = k.outbound;
  interrupt = k.interrupt;
  tags = k.tags;
}

keeps_plain : (p : ℕ) (trace : Trace) (P : Spe) → SpeKeeps p trace (plain P) → SpeKeeps p trace P
keeps_plain p trace P k = record {
  still = ap (λ (R : Spe). record P { tags = R.tags }) k.still;
  order = k.order;
  fit = k.fit;
  status = record { issued = k.status.issued; come = k.status.come };
  slot = k.slot;
  inbound = k.inbound;
  outbound = k.outbound;
  interrupt = k.interrupt;
  tags = k.tags;
}

keeps_alike : (p : ℕ) (trace : Trace) (P Q : Spe) → plain P ≡ plain Q → SpeKeeps p trace P → SpeKeeps p trace Q
keeps_alike p trace P Q same k = keeps_plain p trace Q (subst (SpeKeeps p trace) same (plain_keeps p trace P k))

all_next : (M N : State) (before : Trace) (s : Step) (e : Effect) (new : List Spe) → AreAlike (map settled new) N.spes → Came M.spes new s e → AllKeep before M.spes → AllKeep (before ++ record { step = s; effect = e } ∷ []) N.spes
all_next M N before s e new same c keep = record {
  each = λ p P at.
      let a = alike-at N.spes (map settled new) p P (sym same) at in
      let g = map-got settled new p a.0 a.1 in
      keeps_alike p (before ++ record { step = s; effect = e } ∷ []) a.0 P (sym a.2) (subst (SpeKeeps p (before ++ record { step = s; effect = e } ∷ [])) g.2 (was p g.0 g.1));
}
  where
    was : (p : ℕ) (Q : Spe) → slice_get new p ≡ Some Q → SpeKeeps p (before ++ record { step = s; effect = e } ∷ []) (settled Q)
    was p Q at =
        let low = get-within new p Q at in
        let size = c.count in
        let old = get-there M.spes p (omega (arith, low, size)) in
        let to = c.each p old.0 old.1 in
        let own : to.0 ≡ Q = some_same to.0 Q (sym to.1 ∙ at) in
        subst (λ K. SpeKeeps p (before ++ record { step = s; effect = e } ∷ []) (settled K)) own (spe-next p before old.0 to.0 (record { step = s; effect = e }) (keep.each p old.0 old.1) to.2)

next_count : (M N : State) (s : Step) (e : Effect) (new : List Spe) → AreAlike (map settled new) N.spes → Came M.spes new s e → length N.spes ≡ length M.spes
next_count M N s e new same c = sym (alike-length (map settled new) N.spes same) ∙ length-map new settled ∙ c.count

-- what is so of each event after those before it
abbrev EachAfter : (Trace → Event → Type 0) → Trace → Type 0
EachAfter R trace = (i : ℕ) (e : Event) → slice_get trace i ≡ Some e → R (take i trace) e

each_snoc : (R : Trace → Event → Type 0) (trace : Trace) (e : Event) → EachAfter R trace → R trace e → EachAfter R (trace ++ e ∷ [])
each_snoc R trace e all now i x at =
    get-cases trace e x i (R (take i (trace ++ e ∷ [])) x) at
    (λ last same. subst (λ k. R (take k (trace ++ e ∷ [])) x) (sym last) (subst (λ t. R t x) (sym (take-all trace (e ∷ []))) (subst (R trace) (sym same) now)))
    (λ old. let low = get-within trace i x old in subst (λ t. R t x) (sym (take-less trace (e ∷ []) i (omega (arith, low)))) (all i x old))

-- ---- the steps of a run

-- what holds after some steps
record Ends (n : ℕ) (trace : Trace) (N : State) : Type 0 where
  count : length N.spes ≡ n
  keep : AllKeep trace N.spes
  orderly : IsOrderly n trace
  queued : IsQueued trace

one_more : (n : ℕ) (M N : State) (before : Trace) (s : Step) (e : Effect) → next M s ≡ Some N → effect_of M s ≡ Some e → Ends n before M → Ends n (before ++ record { step = s; effect = e } ∷ []) N
one_more n M N before s e made effect was =
    let to = came M N s e made effect in
    record {
      count = next_count M N s e to.0 to.1 to.2 ∙ was.count;
      keep = all_next M N before s e to.0 to.1 to.2 was.keep;
      orderly = each_snoc (MayCome n) before (record { step = s; effect = e }) was.orderly (subst (λ k. MayCome k before (record { step = s; effect = e })) was.count (may-come M.spes to.0 before s e was.keep to.2));
      queued = each_snoc QueueMay before (record { step = s; effect = e }) was.queued (queue-may M.spes to.0 before s e was.keep to.2);
    }

abbrev Comes : ℕ → Trace → State → List Step → Type 0
Comes n trace M steps = (N : State) × (replay M steps ≡ Some N) × Ends n trace N

run_ends : (n : ℕ) (M : State) (before : Trace) (steps : List Step) (events : List Event) → trace_from M steps ≡ Some events → Ends n before M → Comes n (before ++ events) M steps
run_ends n M before [] events h was = (M, refl, subst (λ t. Ends n t M) (sym (ap (λ xs. before ++ xs) (sym (some_same [] events h)) ∙ append-nil before)) was)
run_ends n M before (s ∷ steps) events h was =
    of_then _ (event M s) events (λ events. Comes n (before ++ events) M (s ∷ steps)) h (λ x told later.
    of_map (λ e. record { step = s; effect = e }) (effect_of M s) x (λ x. option_and_then (λ N. option_map (λ events. x ∷ events) (trace_from N steps)) (next M s) ≡ Some events → Comes n (before ++ events) M (s ∷ steps)) told (λ e effect later2.
    of_then _ (next M s) events (λ events. Comes n (before ++ events) M (s ∷ steps)) later2 (λ N made rest.
    of_map (λ events. record { step = s; effect = e } ∷ events) (trace_from N steps) events (λ events. Comes n (before ++ events) M (s ∷ steps)) rest (λ more is.
    let k = run_ends n N (before ++ record { step = s; effect = e } ∷ []) steps more is (one_more n M N before s e made effect was) in
    (k.0, ap (option_and_then (λ K. replay K steps)) made ∙ k.1, subst (λ t. Ends n t k.0) (append_assoc before (record { step = s; effect = e } ∷ []) more) k.2))))
    later)

run-comes : (m : Ran) (trace : Trace) → trace_of m ≡ Some trace → Comes (count_of m) trace (opening m.setup) m.steps
run-comes m trace h = run_ends (count_of m) (opening m.setup) [] m.steps trace h (record { count = opening-count m.setup; keep = opening_keeps m.setup; orderly = λ i e at. absurd (none i e at); queued = λ i e at. absurd (none i e at) })
  where
    none : (i : ℕ) (e : Event) → slice_get [] i ≡ Some e → ⊥
    none i e at = cc

ended : (m : Ran) (trace : Trace) (M : State) → trace_of m ≡ Some trace → state_of m ≡ Some M → Ends (count_of m) trace M
ended m trace M h at = let c = run-comes m trace h in subst (Ends (count_of m) trace) (some_same c.0 M (sym c.1 ∙ at)) c.2

-- ---- main theorems

-- the trace of a run tells how far each command of each processor has come
pub keeps-status : TracesTell
keeps-status m trace M p P h at there = ((ended m trace M h at).keep.each p P there).status

-- each step of a run may come after those before it
pub is-orderly : TracesAreOrderly
is-orderly m trace h = let c = run-comes m trace h in (c.2.orderly, c.2.queued)

-- and so may each step that is allowed after a run
pub may-follow : StepsMayCome
may-follow m trace M N s e h at made effect =
    let end = ended m trace M h at in
    let to = came M N s e made effect in
    (subst (λ k. MayCome k trace (record { step = s; effect = e })) end.count (may-come M.spes to.0 trace s e end.keep to.2), queue-may M.spes to.0 trace s e end.keep to.2)
