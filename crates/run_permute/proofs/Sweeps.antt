-- Which commands are closed where an instruction of their processor is made.
use Rattle.std.proofs.Common.{◌≡◌, ℕ, ◌+◌, ◌-◌, ◌<◌, ◌≤◌, ◌==◌, Bool, true, false, List, [], ◌∷◌, length, take, refl, sym, ap, ◌∙◌, subst, arith, ◌⊎◌, inl, inr}
use Rattle.std.specs.Prelude.{not, ◌&&◌, filter, slice_index}
use Rattle.std.proofs.lemmas.Bool.{and_parts, cases_lt, eqb-true, both_ways}
use Rattle.cell_base.specs.declared.steps.Step.TheVariants.{Exec}
use Rattle.cell_machine.specs.Run.{Ran}
use Rattle.race_order.specs.Trace.{Trace, IsStep, IsStepOf}
use Rattle.race_order.specs.Queue.{Has}
use Rattle.race_order.specs.Rules.{Rule, Program, One}
use Rattle.race_order.specs.Told.{trace_in}
use Rattle.reorder_laws.specs.OrderedLaws.{IsOrdered}
use Rattle.race_order.specs.declared.progress.Progress.{Progress as Come}
use Rattle.race_order.proofs.Places.{get_take}
use Rattle.race_order.proofs.Histories.{same_progress}
use Rattle.race_order.proofs.Holding.{ordered_trans}
use Rattle.run_permute.specs.declared.kept.Kept.{Kept}
use Rattle.run_permute.specs.SettledLists.{Each, IsIn, AreApart}
use Rattle.run_permute.specs.Online.{IsShutAt}
use Rattle.run_permute.specs.Watches.{IsKnown, IsShut, IsKept, IsSwept, AreKept, AreSwept, AreLeft, cmds_of, is_closed}
use Rattle.run_permute.proofs.SettledEntries.{each-on, each-passes, in-passes, apart-passes, changed-each, changed-numbers, Found, in-taken, in-taken_or, in-at}

-- ---- what is known

pub known-more : (m : Ran) (p x y i : ℕ) → x ≤ y → IsKnown m p x i → IsKnown m p y i
known-more m p x y i low k = let l : k.place < x = k.below in record { place = k.place; below = omega arith; step = k.step; ordered = k.ordered }

-- the instructions of a processor are ordered
step-front : (T : Trace) (x n p : ℕ) → x < n → IsStep T x (Exec p) → IsStep (take n T) x (Exec p)
step-front T x n p low s = record { event = s.event; at = get_take T n x low ∙ s.at; is = s.is }

in-program : (m : Ran) (p x j : ℕ) → x < j → IsStep (trace_in m) x (Exec p) → IsStep (trace_in m) j (Exec p) → IsOrdered m x j
in-program m p x j low a b = One (record { below = low; rule = inl (Program p (step-front (trace_in m) x (j + 1) p (omega arith) a) (step-front (trace_in m) j (j + 1) p (omega arith) b)) })

-- what is known before an instruction, or with it, is ordered before it
pub known-now : (m : Ran) (p j i : ℕ) → IsStep (trace_in m) j (Exec p) → IsKnown m p (j + 1) i → IsOrdered m i j
known-now m p j i here k = on (cases_lt k.place j)
  where
    on : (k.place < j) ⊎ (j ≤ k.place) → IsOrdered m i j
    on (inl low) = ordered_trans Rule (trace_in m) i k.place j k.ordered (in-program m p k.place j low k.step here)
    on (inr high) = let l : k.place < j + 1 = k.below in let same : k.place ≡ j = omega arith in subst (IsOrdered m i) same k.ordered

-- a command that is shut is closed
pub shut-now : (m : Ran) (p j c : ℕ) (s : Come) → IsStep (trace_in m) j (Exec p) → Has (take j (trace_in m)) p c s → IsShut m p j (j + 1) c s → IsShutAt m p c j
shut-now m p j c s here h k = record { progress = s; has = h; complete = k.complete; ordered = λ i low of. known-now m p j i here (k.known i low of) }

-- ---- one command

kept-more : (m : Ran) (p j x y : ℕ) → x ≤ y → (o : Kept) → IsKept m p j x o → IsKept m p j y o
kept-more m p j x y low o k = record { has = k.has; steps = k.steps; left = λ i less of. on i (k.left i less of) }
  where
    on : (i : ℕ) → IsIn i o.steps.items ⊎ IsKnown m p x i → IsIn i o.steps.items ⊎ IsKnown m p y i
    on i (inl h) = inl h
    on i (inr h) = inr (known-more m p x y i low h)

pub shut-more : (m : Ran) (p j x y c : ℕ) (s : Come) → x ≤ y → IsShut m p j x c s → IsShut m p j y c s
shut-more m p j x y c s low k = record { complete = k.complete; known = λ i less of. known-more m p x y i low (k.known i less of) }

-- later instructions know more
pub are-more : (m : Ran) (p j x y : ℕ) → x ≤ y → (kept : List Kept) → AreKept m p j x kept → AreKept m p j y kept
are-more m p j x y low kept k = record {
  each = each-on (IsKept m p j x) (IsKept m p j y) kept (λ o h. kept-more m p j x y low o h) k.each;
  all = λ c s h. on c s (k.all c s h);
  apart = k.apart;
}
  where
    on : (c : ℕ) (s : Come) → IsIn c (cmds_of kept) ⊎ IsShut m p j x c s → IsIn c (cmds_of kept) ⊎ IsShut m p j y c s
    on c s (inl h) = inl h
    on c s (inr h) = inr (shut-more m p j x y c s low h)

-- what a sweep leaves of it
abbrev IsStopped : Ran → ℕ → Kept → Type 0
IsStopped m j o = (o.steps.items ≡ []) ⊎ ((i : ℕ) × IsIn i o.steps.items × (IsOrdered m i j → ⊥))

module _ (m : Ran) (p j : ℕ) (here : IsStep (trace_in m) j (Exec p)) where
  swept-one : (o n : Kept) → IsKept m p j (j + 1) o → IsSwept m j o n → IsKept m p j (j + 1) n × IsStopped m j n
  swept-one o n k s = (
    record {
      has = subst (λ c. Has (take j (trace_in m)) p c n.progress) (sym s.cmd) (subst (λ q. Has (take j (trace_in m)) p o.cmd q) (sym s.progress) k.has);
      steps = λ i h. let r = k.steps i (s.among i h) in (r.0, subst (IsStepOf (trace_in m) i p) (sym s.cmd) r.1);
      left = λ i low of. on i (k.left i low (subst (IsStepOf (trace_in m) i p) s.cmd of));
    },
    s.stop,
  )
    where
      more : (i : ℕ) → IsIn i n.steps.items ⊎ IsOrdered m i j → IsIn i n.steps.items ⊎ IsKnown m p (j + 1) i
      more i (inl h) = inl h
      more i (inr h) = inr (record { place = j; below = omega arith; step = here; ordered = h })

      on : (i : ℕ) → IsIn i o.steps.items ⊎ IsKnown m p (j + 1) i → IsIn i n.steps.items ⊎ IsKnown m p (j + 1) i
      on i (inl h) = more i (s.left i h)
      on i (inr h) = inr h

  no-steps : (xs : List ℕ) → (length xs == 0) ≡ true → xs ≡ []
  no-steps [] h = refl
  no-steps (x ∷ xs) h = let q : length (x ∷ xs) ≡ 0 = eqb-true (length (x ∷ xs)) 0 h in absurd (omega arith)

  none-in : (xs : List ℕ) (i : ℕ) → xs ≡ [] → IsIn i xs → ⊥
  none-in xs i e h = subst (IsIn i) e h

  -- a command is closed exactly where it is complete and no step is left
  closed-shut : (o : Kept) → IsKept m p j (j + 1) o → is_closed o ≡ true → IsShut m p j (j + 1) o.cmd o.progress
  closed-shut o k e =
      let parts = and_parts _ _ e in
      let none = no-steps o.steps.items parts.1 in
      record { complete = parts.0; known = λ i low of. on i none (k.left i low of) }
    where
      on : (i : ℕ) → o.steps.items ≡ [] → IsIn i o.steps.items ⊎ IsKnown m p (j + 1) i → IsKnown m p (j + 1) i
      on i none (inl h) = absurd (none-in o.steps.items i none h)
      on i none (inr h) = h

  not-closed : (o : Kept) → IsKept m p j (j + 1) o → IsStopped m j o → is_closed o ≡ false → IsShutAt m p o.cmd j → ⊥
  not-closed o k stop e shut = on stop
    where
      done : o.progress.done ≡ true
      done = ap (λ (s : Come). s.done) (same_progress (take j (trace_in m)) p o.cmd o.progress shut.progress k.has shut.has) ∙ shut.complete

      on : IsStopped m j o → ⊥
      on (inl none) =
          let c : is_closed o ≡ true = ap (λ (b : Bool). b && (length o.steps.items == 0)) done ∙ ap (λ (xs : List ℕ). length xs == 0) none in
          both_ways _ e c
      on (inr r) = let s = k.steps r.0 r.1 in r.2 (shut.ordered r.0 s.0 s.1)

  -- after a sweep the commands that are left are those that aren't closed
  pub swept-kept : (before after : List Kept) → AreKept m p j (j + 1) before → AreSwept m j before after → AreKept m p j (j + 1) after × AreLeft m p j after
  swept-kept before after k s =
      let one = changed-each (IsSwept m j) (IsKept m p j (j + 1)) (λ o. IsKept m p j (j + 1) o × IsStopped m j o) (λ o n h r. swept-one o n h r) before s.between s.swept k.each in
      let same = changed-numbers (IsSwept m j) (λ (o : Kept). o.cmd) (λ o n r. r.cmd) before s.between s.swept in
      let test : Kept → Bool = λ o. not (is_closed o) in
      let passed = each-passes (λ (o : Kept). o.cmd) test (λ o. IsKept m p j (j + 1) o × IsStopped m j o) s.between one in
      let apart = apart-passes (λ (o : Kept). o.cmd) test s.between (subst AreApart (sym same) k.apart) in
      subst (λ kept. AreKept m p j (j + 1) kept × AreLeft m p j kept) (sym s.left) (
        record {
          each = each-on (λ o. (IsKept m p j (j + 1) o × IsStopped m j o) × (test o ≡ true)) (IsKept m p j (j + 1)) (filter test s.between) (λ o h. h.0.0) passed;
          all = λ c t h. in-or c t h (k.all c t h) same one;
          apart = apart;
        },
        each-on (λ o. (IsKept m p j (j + 1) o × IsStopped m j o) × (test o ≡ true)) (λ o. IsShutAt m p o.cmd j → ⊥) (filter test s.between) (λ o h. not-closed o h.0.0 h.0.1 (not-true (is_closed o) h.1)) passed,
      )
    where
      not-true : (b : Bool) → not b ≡ true → b ≡ false
      not-true true h = absurd (cc)
      not-true false h = refl

      not-false : (b : Bool) → not b ≡ false → b ≡ true
      not-false true h = refl
      not-false false h = absurd (cc)

      test : Kept → Bool
      test o = not (is_closed o)

      found : (c : ℕ) (t : Come) → Has (take j (trace_in m)) p c t → Found (λ (o : Kept). o.cmd) (λ o. (IsKept m p j (j + 1) o × IsStopped m j o) × (not (is_closed o) ≡ false)) c → IsShut m p j (j + 1) c t
      found c t h f =
          let shut = closed-shut f.entry f.holds.0.0 (not-false (is_closed f.entry) f.holds.1) in
          let kept : Has (take j (trace_in m)) p c f.entry.progress = subst (λ d. Has (take j (trace_in m)) p d f.entry.progress) f.is f.holds.0.0.has in
          let same : f.entry.progress ≡ t = same_progress (take j (trace_in m)) p c f.entry.progress t kept h in
          subst (IsShut m p j (j + 1) c) same (subst (λ d. IsShut m p j (j + 1) d f.entry.progress) f.is shut)

      in-or : (c : ℕ) (t : Come) → Has (take j (trace_in m)) p c t → IsIn c (cmds_of before) ⊎ IsShut m p j (j + 1) c t → cmds_of s.between ≡ cmds_of before → Each (λ o. IsKept m p j (j + 1) o × IsStopped m j o) s.between
          → IsIn c (cmds_of (filter (λ o. not (is_closed o)) s.between)) ⊎ IsShut m p j (j + 1) c t
      in-or c t h (inr shut) same one = inr shut
      in-or c t h (inl i) same one = or (in-passes (λ (o : Kept). o.cmd) (λ o. not (is_closed o)) (λ o. IsKept m p j (j + 1) o × IsStopped m j o) s.between c one (subst (IsIn c) (sym same) i))
        where
          or : IsIn c (cmds_of (filter (λ o. not (is_closed o)) s.between)) ⊎ Found (λ (o : Kept). o.cmd) (λ o. (IsKept m p j (j + 1) o × IsStopped m j o) × (not (is_closed o) ≡ false)) c
              → IsIn c (cmds_of (filter (λ o. not (is_closed o)) s.between)) ⊎ IsShut m p j (j + 1) c t
          or (inl r) = inl r
          or (inr f) = inr (found c t h f)

-- the first n of the steps are left, where the others are ordered before, and the last of them isn't
pub swept-to : (m : Ran) (k n : ℕ) (old new : Kept) → new.cmd ≡ old.cmd → new.progress ≡ old.progress → new.steps.items ≡ take n old.steps.items → n ≤ length old.steps.items
    → ((x : ℕ) → n ≤ x → x < length old.steps.items → IsOrdered m (slice_index old.steps.items x) k) → (0 < n → IsOrdered m (slice_index old.steps.items (n - 1)) k → ⊥) → IsSwept m k old new
swept-to m k n old new cmd progress steps few known stop = record {
  cmd = cmd;
  progress = progress;
  among = λ i h. in-taken i n old.steps.items (subst (IsIn i) steps h);
  left = λ i h. on i (in-taken_or i n old.steps.items h);
  stop = end (cases_lt 0 n);
}
  where
    on : (i : ℕ) → IsIn i (take n old.steps.items) ⊎ ((x : ℕ) × (n ≤ x) × (x < length old.steps.items) × (slice_index old.steps.items x ≡ i)) → IsIn i new.steps.items ⊎ IsOrdered m i k
    on i (inl h) = inl (subst (IsIn i) (sym steps) h)
    on i (inr r) = inr (subst (λ y. IsOrdered m y k) r.3 (known r.0 r.1 r.2))

    end : (0 < n) ⊎ (n ≤ 0) → IsStopped m k new
    end (inl some) = inr (slice_index old.steps.items (n - 1), subst (IsIn (slice_index old.steps.items (n - 1))) (sym steps) (in-at n (n - 1) old.steps.items (omega arith) (omega arith)), stop some)
    end (inr none) = let zero_n : n ≡ 0 = omega arith in inl (steps ∙ ap (λ y. take y old.steps.items) zero_n)
