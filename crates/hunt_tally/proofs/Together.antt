-- What the runs of some reports and of those behind them tell together.
use Rattle.std.proofs.Common.{◌≡◌, ℕ, ◌+◌, ◌≤◌, Bool, true, false, cond, ◌&&◌, eqb, eqb-true, List, [], ◌∷◌, ◌++◌, length, map, length-append, append_assoc, append-nil, refl, sym, ap, subst, ◌∙◌, arith}
use Rattle.std.specs.Prelude.{nat_lt}
use Rattle.std.proofs.lemmas.List.{map-append}
use Rattle.std.specs.List.{flat_map}
use Rattle.std.proofs.lemmas.List.Concat.{flat_map-append}
use Rattle.std.proofs.lemmas.List.Sums.{sum_by-append}
use Rattle.hunt_tally.specs.declared.count.Count.{Count}
use Rattle.hunt_tally.specs.Tallies.{tallied}
use Rattle.hunt_tally.specs.Joins.{Joined}
use Rattle.hunt_tally.specs.Counting.{count_of, noted, with_count}
use Rattle.hunt_tally.specs.Executed.{set_of}
use Rattle.hunt_tally.specs.Kinds.{runs_of, kinds_of, with_kinds}
use Rattle.hunt_tally.specs.Reports.{Reported, all_stopped, ending_told, result_told, missed_told, flaws_of, Sums, executed_in, hunted}
use Rattle.hunt_tally.specs.Bounds.{AreWithin, IsWithin}
use Rattle.hunt_tally.proofs.ExecutedLemmas.{set_both}
use Rattle.hunt_tally.proofs.Hunting.{noted_is}
use Rattle.hunt_tally.proofs.KindLemmas.{kinds_joined}

-- ---- counts

with_none : (before : ℕ) (c : Count) → with_count before c (record { runs = 0; first = 0 }) ≡ c
with_none before c = by (eqb c.runs 0)
  where
    same : c.runs + 0 ≡ c.runs
    same = omega arith

    by : (b : Bool) → record { runs = c.runs + 0; first = cond (b && nat_lt 0 0) (before + 0) c.first } ≡ c
    by true = λ i. record { runs = same i; first = c.first }
    by false = λ i. record { runs = same i; first = c.first }

-- one run more of those behind is one more of all
with_noted : (before run : ℕ) (passes : Bool) (c d : Count) → with_count before c (noted run passes d) ≡ noted (before + run) passes (with_count before c d)
with_noted before run false c d = refl
with_noted before run true c d = by (eqb c.runs 0) refl (eqb d.runs 0) refl
  where
    by : (a : Bool) → eqb c.runs 0 ≡ a → (b : Bool) → eqb d.runs 0 ≡ b → with_count before c (noted run true d) ≡ noted (before + run) true (with_count before c d)
    by true none true nothing =
        let zero = eqb-true c.runs 0 none in
        let both : eqb (c.runs + d.runs) 0 ≡ true = grind (arith, none, nothing) in
        let n : c.runs + 1 ≡ 1 = omega (arith, zero) in
        rw (nothing, none, both) (ap (λ k. record { runs = k; first = before + run }) n)
    by true none false some =
        let both : eqb (c.runs + d.runs) 0 ≡ false = grind (arith, some) in
        let now : nat_lt 0 (d.runs + 1) ≡ true = grind arith in
        let before_it : nat_lt 0 d.runs ≡ true = grind (arith, some) in
        let n : c.runs + (d.runs + 1) ≡ c.runs + d.runs + 1 = omega arith in
        rw (some, none, now, both, before_it) (ap (λ k. record { runs = k; first = before + d.first }) n)
    by false some true nothing =
        let zero = eqb-true d.runs 0 nothing in
        let both : eqb (c.runs + d.runs) 0 ≡ false = grind (arith, some) in
        let n : c.runs + 1 ≡ c.runs + d.runs + 1 = omega (arith, zero) in
        rw (nothing, some, both) (ap (λ k. record { runs = k; first = c.first }) n)
    by false some false more =
        let both : eqb (c.runs + d.runs) 0 ≡ false = grind (arith, some) in
        let n : c.runs + (d.runs + 1) ≡ c.runs + d.runs + 1 = omega arith in
        rw (more, some, both) (ap (λ k. record { runs = k; first = c.first }) n)

module _ {X : Type 0} (test : X → Bool) (xs : List X) where
  abbrev Counts : List X → Type 0
  Counts behind = with_count (length xs) (count_of test xs) (count_of test behind) ≡ count_of test (xs ++ behind)

  none_behind : Counts []
  unfolding count_of
  none_behind = with_none (length xs) (count_of test xs) ∙ ap (count_of test) (sym (append-nil xs))

  one_behind : (done : List X) (x : X) → Counts done → Counts (done ++ x ∷ [])
  one_behind done x is =
      ap (with_count (length xs) (count_of test xs)) (noted_is test done x)
      ∙ with_noted (length xs) (length done) (test x) (count_of test xs) (count_of test done)
      ∙ ap (noted (length xs + length done) (test x)) is
      ∙ ap (λ k. noted k (test x) (count_of test (xs ++ done))) (sym (length-append xs done))
      ∙ sym (noted_is test (xs ++ done) x)
      ∙ ap (count_of test) (append_assoc xs done (x ∷ []))

  all_behind : (done behind : List X) → Counts done → Counts (done ++ behind)
  all_behind done [] is = subst Counts (sym (append-nil done)) is
  all_behind done (x ∷ behind) is = subst Counts (append_assoc done (x ∷ []) behind) (all_behind (done ++ x ∷ []) behind (one_behind done x is))

  pub counts_joined : (behind : List X) → Counts behind
  counts_joined behind = all_behind [] behind none_behind

-- ---- sums

-- the sums of all runs, by those of the first ones and those behind
pub record AreBoth (here behind new : Sums) : Type 0 where
  pub runs : new.runs ≡ here.runs + behind.runs
  pub all_stopped : new.all_stopped ≡ here.all_stopped + behind.all_stopped
  pub left_out : new.left_out ≡ here.left_out + behind.left_out
  pub steps : new.steps ≡ here.steps + behind.steps
  pub race : new.flaws.race ≡ with_count here.runs here.flaws.race behind.flaws.race
  pub stuck : new.flaws.stuck ≡ with_count here.runs here.flaws.stuck behind.flaws.stuck
  pub livelock : new.flaws.livelock ≡ with_count here.runs here.flaws.livelock behind.flaws.livelock
  pub budget : new.flaws.budget ≡ with_count here.runs here.flaws.budget behind.flaws.budget
  pub fault : new.flaws.fault ≡ with_count here.runs here.flaws.fault behind.flaws.fault
  pub halt : new.flaws.halt ≡ with_count here.runs here.flaws.halt behind.flaws.halt
  pub missed : new.flaws.missed ≡ with_count here.runs here.flaws.missed behind.flaws.missed
  pub kinds : new.kinds ≡ with_kinds here.kinds behind.kinds
  pub endings : Joined here.endings behind.endings new.endings
  pub results : Joined here.results behind.results new.results
  pub races : Joined here.races behind.races new.races
  pub lines : Joined here.missed behind.missed new.missed
  pub findings : Joined here.findings behind.findings new.findings
  pub warnings : Joined here.warnings behind.warnings new.warnings
  pub executed : new.executed ≡ set_of (here.executed ++ behind.executed)

executed_both : (xs ys : List Reported) → set_of (executed_in xs ++ executed_in ys) ≡ executed_in (xs ++ ys)
executed_both xs ys =
    set_both (flat_map (λ (r : Reported). r.executed) xs) (flat_map (λ (r : Reported). r.executed) ys) ∙ ap set_of (sym (flat_map-append (λ (r : Reported). r.executed) xs ys))

pub hunted_both : (here behind new : Sums) → AreBoth here behind new → (xs ys : List Reported) → here ≡ hunted xs → behind ≡ hunted ys → new ≡ hunted (xs ++ ys)
unfolding hunted flaws_of
hunted_both here behind new is xs ys a b = λ i. record {
  runs = (is.runs ∙ (λ j. (a j).runs + (b j).runs) ∙ sym (length-append xs ys)) i;
  all_stopped = (is.all_stopped ∙ (λ j. (a j).all_stopped + (b j).all_stopped) ∙ sym (sum_by-append (λ (r : Reported). cond (all_stopped r) 1 0) xs ys)) i;
  left_out = (is.left_out ∙ (λ j. (a j).left_out + (b j).left_out) ∙ sym (sum_by-append (λ (r : Reported). cond r.leaves_out 1 0) xs ys)) i;
  steps = (is.steps ∙ (λ j. (a j).steps + (b j).steps) ∙ sym (sum_by-append (λ (r : Reported). r.steps) xs ys)) i;
  flaws = record {
    race = (is.race ∙ (λ j. with_count (a j).runs (a j).flaws.race (b j).flaws.race) ∙ counts_joined (λ (r : Reported). r.flaws.race) xs ys) i;
    stuck = (is.stuck ∙ (λ j. with_count (a j).runs (a j).flaws.stuck (b j).flaws.stuck) ∙ counts_joined (λ (r : Reported). r.flaws.stuck) xs ys) i;
    livelock = (is.livelock ∙ (λ j. with_count (a j).runs (a j).flaws.livelock (b j).flaws.livelock) ∙ counts_joined (λ (r : Reported). r.flaws.livelock) xs ys) i;
    budget = (is.budget ∙ (λ j. with_count (a j).runs (a j).flaws.budget (b j).flaws.budget) ∙ counts_joined (λ (r : Reported). r.flaws.budget) xs ys) i;
    fault = (is.fault ∙ (λ j. with_count (a j).runs (a j).flaws.fault (b j).flaws.fault) ∙ counts_joined (λ (r : Reported). r.flaws.fault) xs ys) i;
    halt = (is.halt ∙ (λ j. with_count (a j).runs (a j).flaws.halt (b j).flaws.halt) ∙ counts_joined (λ (r : Reported). r.flaws.halt) xs ys) i;
    missed = (is.missed ∙ (λ j. with_count (a j).runs (a j).flaws.missed (b j).flaws.missed) ∙ counts_joined (λ (r : Reported). r.flaws.missed) xs ys) i;
  };
  kinds = (is.kinds ∙ (λ j. with_kinds (a j).kinds (b j).kinds) ∙ kinds_joined (map (λ (r : Reported). r.kind) xs) (map (λ (r : Reported). r.kind) ys) ∙ ap kinds_of (sym (map-append (λ (r : Reported). r.kind) xs ys))) i;
  endings = (is.endings (map ending_told xs) (map ending_told ys) (ap (λ (s : Sums). s.endings) a) (ap (λ (s : Sums). s.endings) b) ∙ ap tallied (sym (map-append ending_told xs ys))) i;
  results = (is.results (map result_told xs) (map result_told ys) (ap (λ (s : Sums). s.results) a) (ap (λ (s : Sums). s.results) b) ∙ ap tallied (sym (map-append result_told xs ys))) i;
  races = (is.races (map (λ (r : Reported). r.races) xs) (map (λ (r : Reported). r.races) ys) (ap (λ (s : Sums). s.races) a) (ap (λ (s : Sums). s.races) b) ∙ ap tallied (sym (map-append (λ (r : Reported). r.races) xs ys))) i;
  missed = (is.lines (map missed_told xs) (map missed_told ys) (ap (λ (s : Sums). s.missed) a) (ap (λ (s : Sums). s.missed) b) ∙ ap tallied (sym (map-append missed_told xs ys))) i;
  findings = (is.findings (map (λ (r : Reported). r.findings) xs) (map (λ (r : Reported). r.findings) ys) (ap (λ (s : Sums). s.findings) a) (ap (λ (s : Sums). s.findings) b) ∙ ap tallied (sym (map-append (λ (r : Reported). r.findings) xs ys))) i;
  warnings = (is.warnings (map (λ (r : Reported). r.warnings) xs) (map (λ (r : Reported). r.warnings) ys) (ap (λ (s : Sums). s.warnings) a) (ap (λ (s : Sums). s.warnings) b) ∙ ap tallied (sym (map-append (λ (r : Reported). r.warnings) xs ys))) i;
  executed = (is.executed ∙ (λ j. set_of ((a j).executed ++ (b j).executed)) ∙ executed_both xs ys) i;
}

-- and none of them is more than all runs, also where not all was taken in
pub within_both : (here behind new : Sums) → IsWithin here → IsWithin behind → new.runs ≡ here.runs + behind.runs → new.all_stopped ≡ here.all_stopped + behind.all_stopped
    → new.left_out ≡ here.left_out + behind.left_out → new.steps ≡ here.steps + behind.steps → AreWithin (here.runs + behind.runs) new.flaws → runs_of new.kinds ≤ runs_of here.kinds + runs_of behind.kinds
    → new.endings.runs ≤ here.endings.runs + behind.endings.runs → new.results.runs ≤ here.results.runs + behind.results.runs
    → new.races.runs ≤ here.races.runs + behind.races.runs → new.missed.runs ≤ here.missed.runs + behind.missed.runs
    → new.findings.runs ≤ here.findings.runs + behind.findings.runs → new.warnings.runs ≤ here.warnings.runs + behind.warnings.runs → IsWithin new
within_both here behind new a b runs stopped out steps flaws kinds endings results races missed findings warnings = record {
  all_stopped = omega (arith, runs, stopped, a.all_stopped, b.all_stopped);
  left_out = omega (arith, runs, out, a.left_out, b.left_out);
  steps = omega (arith, runs, steps, a.steps, b.steps);
  flaws = subst (λ n. AreWithin n new.flaws) (sym runs) flaws;
  kinds = omega (arith, runs, kinds, a.kinds, b.kinds);
  endings = omega (arith, runs, endings, a.endings, b.endings);
  results = omega (arith, runs, results, a.results, b.results);
  races = omega (arith, runs, races, a.races, b.races);
  missed = omega (arith, runs, missed, a.missed, b.missed);
  findings = omega (arith, runs, findings, a.findings, b.findings);
  warnings = omega (arith, runs, warnings, a.warnings, b.warnings);
}
