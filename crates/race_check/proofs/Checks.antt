-- The races with the last step of a run that is made again, and the least of all.
use Rattle.std.proofs.Common.{◌≡◌, ℕ, ◌+◌, ◌-◌, ◌/◌, ◌≤◌, ◌<◌, Bool, true, false, not, List, [], length, get_or, ◌⊎◌, inl, inr, Some, sym, ap, ◌∙◌, subst, arith}
use Rattle.std.specs.Prelude.{◌↔◌, IsTrue, slice_get}
use Rattle.std.proofs.lemmas.Bool.{both_ways, cases_Bool, cases_lt}
use Rattle.std.proofs.lemmas.Option.{slice_get_within}
use Rattle.cell_machine.specs.Run.{Ran}
use Rattle.cell_machine.specs.Traces.{trace_of}
use Rattle.race_order.specs.Told.{trace_in}
use Rattle.race_order.proofs.Places.{get_take}
use Rattle.race_check.specs.declared.access.Access.{Access}
use Rattle.race_check.specs.Races.{Conflict, IsFirst, IsLeast, RaceBy}
use Rattle.race_check.specs.Walks.{IsOrdered, accesses_in, RaceIn}
use Rattle.race_check.specs.declared.line.Line.{Line}
use Rattle.race_check.specs.declared.shadow.Shadow.{Shadow}
use Rattle.race_check.specs.Crowds.{IsSafe}
use Rattle.race_check.specs.Shows.{Kept, Shows, list_of}
use Rattle.race_check.proofs.Places.{conflict_at, conflict_from}
use Rattle.race_check.proofs.Prefixes.{first_of, accesses_in-first, accesses-long, ordered-first}

module _ (Before : ℕ → ℕ → Type 0) (accesses : List Access) where
  module _ (i last : ℕ) (first second : Access) (below : i < last) (inside : last < length accesses) where
    pub race_if : (known : Bool) (n : ℕ) → last + 1 ≡ n → Conflict (get_or accesses i first) (get_or accesses last second) → IsTrue known ↔ Before i (n - 1) → IsTrue (not known) ↔ RaceBy Before accesses i last
    race_if known n is conflict says = (from (cases_Bool known), to (cases_Bool known))
      where
        same : n - 1 ≡ last
        same = omega arith

        from : (known ≡ true) ⊎ (known ≡ false) → IsTrue (not known) → RaceBy Before accesses i last
        from (inl t) u = absurd (both_ways (not known) (ap not t) u)
        from (inr f) u =
            record {
              below = below;
              unordered = λ o. both_ways known f (says.1 (subst (Before i) (sym same) o));
              conflict = conflict_at accesses i last first second (omega arith) inside conflict;
            }

        to : (known ≡ true) ⊎ (known ≡ false) → RaceBy Before accesses i last → IsTrue (not known)
        to (inl t) race = absurd (race.unordered (subst (Before i) same (says.0 t)))
        to (inr f) race = ap not f

    pub no_conflict : (Conflict (get_or accesses i first) (get_or accesses last second) → ⊥) → RaceBy Before accesses i last → ⊥
    no_conflict none race = none (conflict_from accesses i last first second race.conflict)

  -- none is in front of the one that was found
  pub first_found : (i j : ℕ) → RaceBy Before accesses i j → ((k : ℕ) → k < i → RaceBy Before accesses k j → ⊥) → IsFirst (RaceBy Before accesses) i j
  first_found i j race none = record { holds = race; first = λ k r. at k r (cases_lt k i) }
    where
      at : (k : ℕ) → RaceBy Before accesses k j → (k < i) ⊎ (i ≤ k) → i ≤ k
      at k r (inl low) = absurd (none k low r)
      at k r (inr high) = high

  pub least : (i j : ℕ) → ((k m : ℕ) → m < j → RaceBy Before accesses k m → ⊥) → IsFirst (RaceBy Before accesses) i j → IsLeast (RaceBy Before accesses) i j
  least i j none of = record { holds = of.holds; least_second = λ k m r. second k m r (cases_lt m j); least_first = of.first }
    where
      second : (k m : ℕ) → RaceBy Before accesses k m → (m < j) ⊎ (j ≤ m) → j ≤ m
      second k m r (inl low) = absurd (none k m low r)
      second k m r (inr high) = high

  pub shows_none : (shadow : Shadow) → shadow.lists.items ≡ [] → Shows Before accesses shadow 0
  shows_none shadow empty =
      record {
        kept = λ i a p x w low at t. absurd (omega arith);
        real = record { below = λ k line w s p x is has. absurd (nothing k line is); real = λ k line w s p x is has. absurd (nothing k line is) };
      }
    where
      nothing : (k : ℕ) (line : Line) → slice_get shadow.lists.items k ≡ Some line → ⊥
      nothing k line is = let low : k < 0 = subst (λ xs. k < length xs) empty (slice_get_within shadow.lists.items k line is) in omega arith

-- the two relations and the two lists agree on the first n places
module _ (Before Other : ℕ → ℕ → Type 0) (accesses others : List Access) (n : ℕ) (to : (i j : ℕ) → j < n → Before i j → Other i j) (same : (i : ℕ) → i < n → slice_get accesses i ≡ slice_get others i) where
  safe_below : (i j : ℕ) → j < n → IsSafe Before i j → IsSafe Other i j
  safe_below i j low (inl e) = inl e
  safe_below i j low (inr o) = inr (to i j low o)

  shows_below : (shadow : Shadow) (j : ℕ) → j ≤ n → Shows Before accesses shadow j → Shows Other others shadow j
  shows_below shadow j far shows =
      record {
        kept = λ i a p x w low at t.
            let k : Kept Before shadow i p x w = shows.kept i a p x w low (same i (omega arith) ∙ at) t in
            let less : k.step < j = shows.real.below (list_of shadow p (x / 128)) k.line w k.step p x k.at k.inside in
            record { line = k.line; at = k.at; step = k.step; inside = k.inside; safe = safe_below i k.step (omega arith) k.safe };
        real = record {
          below = shows.real.below;
          real = λ k line w s p x is has.
              let r = shows.real.real k line w s p x is has in
              let less : s < j = shows.real.below k line w s p x is has in
              record { access = r.access; at = sym (same s (omega arith)) ∙ r.at; touch = r.touch };
        };
      }

  -- a race by the second relation is one by the first
  race_below : (i j : ℕ) → j < n → RaceBy Other others i j → RaceBy Before accesses i j
  race_below i j low race =
      let c = race.conflict in
      let less = race.below in
      record {
        below = race.below;
        unordered = λ o. race.unordered (to i j low o);
        conflict = record { first = c.first; second = c.second; first_at = same i (omega arith) ∙ c.first_at; second_at = same j low ∙ c.second_at; conflict = c.conflict };
      }

-- a run and its first n steps
module _ (m : Ran) (is : trace_of m ≡ Some (trace_in m)) (n : ℕ) (w : Ran) (made : w ≡ first_of m n) where
  to_whole : (i k : ℕ) → k < n → IsOrdered w i k → IsOrdered m i k
  to_whole i k low o = (ordered-first m n i k is low).0 (subst (λ r. IsOrdered r i k) made o)

  to_first : (i k : ℕ) → k < n → IsOrdered m i k → IsOrdered w i k
  to_first i k low o = subst (λ r. IsOrdered r i k) (sym made) ((ordered-first m n i k is low).1 o)

  same : (i : ℕ) → i < n → slice_get (accesses_in w) i ≡ slice_get (accesses_in m) i
  same i low = ap (λ r. slice_get (accesses_in r) i) made ∙ ap (λ accesses. slice_get accesses i) (accesses_in-first m n is) ∙ get_take (accesses_in m) n i low

  pub shows_whole : (shadow : Shadow) (j : ℕ) → j ≤ n → Shows (IsOrdered w) (accesses_in w) shadow j → Shows (IsOrdered m) (accesses_in m) shadow j
  shows_whole shadow j far shows = shows_below (IsOrdered w) (IsOrdered m) (accesses_in w) (accesses_in m) n to_whole same shadow j far shows

  pub race_first : (i j : ℕ) → j < n → RaceIn m i j → RaceIn w i j
  race_first i j low race = race_below (IsOrdered w) (IsOrdered m) (accesses_in w) (accesses_in m) n to_whole same i j low race

  pub race_whole : (i j : ℕ) → j < n → RaceIn w i j → RaceIn m i j
  race_whole i j low race = race_below (IsOrdered m) (IsOrdered w) (accesses_in m) (accesses_in w) n to_first (λ k less. sym (same k less)) i j low race

  -- the least race of the first steps is that of all
  pub least_whole : (i j : ℕ) → j < n → IsLeast (RaceIn w) i j → IsLeast (RaceIn m) i j
  least_whole i j low of_first =
      record {
        holds = race_whole i j low of_first.holds;
        least_second = λ k l race. elim (cases_lt l j) [
          | inl less ↦ of_first.least_second k l (race_first k l (omega arith) race)
          | inr more ↦ more
        ];
        least_first = λ k race. of_first.least_first k (race_first k j low race);
      }

-- one step more, of which the race with it, or that there is none, is known
module _ (m w : Ran) (is : trace_of m ≡ Some (trace_in m)) (n : ℕ) (made : w ≡ first_of m n) (none : (i j : ℕ) → RaceIn w i j → ⊥) where
  none_below : (i j : ℕ) → j < n → RaceIn m i j → ⊥
  none_below i j low race = none i j (race_first m is n w made i j low race)

  pub none_next : length m.steps ≤ n + 1 → ((i : ℕ) → RaceIn m i n → ⊥) → (i j : ℕ) → RaceIn m i j → ⊥
  none_next long here i j race =
      let all : length (accesses_in m) ≡ length m.steps = accesses-long m is in
      let low : j < length (accesses_in m) = slice_get_within (accesses_in m) j race.conflict.second race.conflict.second_at in
      elim (cases_lt j n) [
        | inl less ↦ none_below i j less race
        | inr more ↦ (let e : j ≡ n = omega (arith, all, low, long, more) in here i (subst (RaceIn m i) e race))
      ]

  pub least_next : (i : ℕ) → IsFirst (RaceIn m) i n → IsLeast (RaceIn m) i n
  least_next i of = least (IsOrdered m) (accesses_in m) i n (λ k l low. none_below k l low) of
