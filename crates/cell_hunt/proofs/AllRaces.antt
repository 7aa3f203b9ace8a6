-- The races of a run, when one more step is made.
use Rattle.std.proofs.Common.{◌≡◌, ℕ, ◌+◌, ◌<◌, refl, sym, subst, ◌∙◌, arith, List, [], ◌∷◌, ◌++◌, length, get_or, inl, inr}
use Rattle.std.specs.Prelude.{◌⊎◌, Option, Some, None, false, is_some}
use Rattle.std.proofs.lemmas.Bool.{cases_lt}
use Rattle.std.proofs.lemmas.List.Elements.{All-push, Contains-append_left, Contains-push}
use Rattle.std.proofs.lemmas.List.Quantifiers.{all_pairs_push}
use Rattle.cell_base.specs.declared.steps.Step.{Step}
use Rattle.cell_machine.specs.Run.{Ran}
use Rattle.race_check.specs.Races.{IsFirst, IsLatest, IsLeast}
use Rattle.race_check.specs.Walks.{IsOrdered, RaceIn, accesses_in}
use Rattle.race_check.proofs.Accepted.{IsTold, accepted, first_steps, race-inside, raced}
use Rattle.race_check.proofs.Checks.{least as least_of, least_whole, race_first, race_whole}
use Rattle.race_check.proofs.Prefixes.{first_of}
use Rattle.cell_hunt.specs.declared.racing.Racing.{Racing}
use Rattle.cell_hunt.specs.SoFar.{AreRacesTo, IsLeastTo}
use Rattle.cell_hunt.specs.Racings.{AreAllRaces, HasSecond, IsLeastRace, IsRacing}
use Rattle.cell_hunt.specs.Runs.{with_step}
use Rattle.cell_hunt.proofs.Grown.{sites-left}

pub below-or : (j n : ℕ) → j < n + 1 → (j < n) ⊎ (j ≡ n)
below-or j n low = elim (cases_lt j n) [ inl less ↦ inl less | inr more ↦ inr (omega (arith, low, more)) ]

-- ---- one more step, whatever it races with

module _ (m n : Ran) (s : Step) (made : n ≡ with_step m s) (was : IsTold m) (is : IsTold n) where
  first : m ≡ first_of n (length m.steps)
  first = first_steps m n s made

  back : (i j : ℕ) → j < length m.steps → RaceIn n i j → RaceIn m i j
  back i j low race = race_first n is (length m.steps) m first i j low race

  latest-on : (i j : ℕ) → j < length m.steps → IsLatest (RaceIn m) i j → IsLatest (RaceIn n) i j
  latest-on i j low latest = record { holds = race_whole n is (length m.steps) m first i j low latest.holds; latest = λ k race. latest.latest k (back k j low race) }

  racing-on : (r : Racing) → r.second < length m.steps → IsRacing m r → IsRacing n r
  racing-on r low racing = record { latest = latest-on r.first r.second low racing.latest; sites = sites-left m n (s ∷ []) made r.first r.second r.sites racing.sites }

  pub races-on : (races : List Racing) → AreRacesTo (length m.steps) m races → AreRacesTo (length m.steps) n races
  races-on races are = record {
    each = λ k d low. racing-on (get_or races k d) (are.below k d low) (are.each k d low);
    below = are.below;
    all = λ i j low race. are.all i j low (back i j low race);
    ascend = are.ascend;
  }

  pub least-on : (least : Option Racing) → IsLeastTo (length m.steps) m least → IsLeastTo (length m.steps) n least
  least-on None none = λ i j low race. none i j low (back i j low race)
  least-on (Some r) of =
      let low = race-inside m was r.first r.second of.0.holds in
      (least_whole n is (length m.steps) m first r.first r.second low of.0, sites-left m n (s ∷ []) made r.first r.second r.sites of.1)

-- ---- the step at n

module _ (m : Ran) (n : ℕ) where
  -- it races with none
  module _ (none : (i : ℕ) → RaceIn m i n → ⊥) where
    pub races-none : (races : List Racing) → AreRacesTo n m races → AreRacesTo (n + 1) m races
    races-none races are = record {
      each = are.each;
      below = λ k d low. (let less : (get_or races k d).second < n = are.below k d low in omega (arith, less));
      all = λ i j low race. elim (below-or j n low) [
        | inl less ↦ are.all i j less race
        | inr here ↦ absurd (none i (subst (RaceIn m i) here race))
      ];
      ascend = are.ascend;
    }

    pub least-none : (least : Option Racing) → IsLeastTo n m least → IsLeastTo (n + 1) m least
    least-none None old = λ i j low race. elim (below-or j n low) [
      | inl less ↦ old i j less race
      | inr here ↦ none i (subst (RaceIn m i) here race)
    ]
    least-none (Some r) old = old

  -- an entry of it is added
  pub races-more : (races : List Racing) (r : Racing) → r.second ≡ n → IsRacing m r → AreRacesTo n m races → AreRacesTo (n + 1) m (races ++ r ∷ [])
  races-more races r is racing are = record {
    each = All-push (IsRacing m) races r are.each racing;
    below = All-push (λ x. x.second < n + 1) races r (λ k d low. (let less : (get_or races k d).second < n = are.below k d low in omega (arith, less))) (omega (arith, is));
    all = λ i j low race. elim (below-or j n low) [
      | inl less ↦ (let old : HasSecond races j = are.all i j less race in record { racing = old.racing; inside = Contains-append_left races (r ∷ []) old.racing old.inside; is = old.is })
      | inr here ↦ record { racing = r; inside = Contains-push races r; is = is ∙ sym here }
    ];
    ascend = all_pairs_push (λ a b. a.second < b.second) races r are.ascend (λ k d low. (let less : (get_or races k d).second < n = are.below k d low in omega (arith, less, is)));
  }

  -- the first race is the least
  pub least-first : (i : ℕ) → IsLeastTo n m None → IsFirst (RaceIn m) i n → IsLeast (RaceIn m) i n
  least-first i none first = least_of (IsOrdered m) (accesses_in m) i n (λ k j low race. none k j low race) first

-- ---- all steps

module _ (m : Ran) (is : IsTold m) where
  pub all-races : (races : List Racing) → AreRacesTo (length m.steps) m races → AreAllRaces m races
  all-races races are = record { each = are.each; all = λ i j race. are.all i j (race-inside m is i j race) race; ascend = are.ascend }

  pub least-race : (least : Option Racing) → IsLeastTo (length m.steps) m least → IsLeastRace m least
  least-race None none = accepted m is (λ i j race. none i j (race-inside m is i j race) race)
  least-race (Some r) of = (raced m is r.first r.second of.0, of.1)

pub none_of : (o : Option Racing) → is_some o ≡ false → o ≡ None
none_of None e = refl
none_of (Some r) e = absurd (cc)
