-- What the runs of some reports tell together, and with one report more.
use Rattle.std.proofs.Common.{◌≡◌, ◌+◌, ◌<◌, Bool, true, false, cond, ◌||◌, eqb, List, [], ◌∷◌, ◌++◌, length, map, append-nil, refl, sym, ap, ◌∙◌, arith, true≢false}
use Rattle.std.specs.Prelude.{nat_lt, Result, Ok, Err, OnOk}
use Rattle.std.specs.List.{list_any, count_by, flat_map, position_or_len}
use Rattle.std.proofs.lemmas.List.{map_push, length_push}
use Rattle.std.proofs.lemmas.List.Concat.{flat_map-append}
use Rattle.std.proofs.lemmas.List.Folds.{position_or_len_push}
use Rattle.std.proofs.lemmas.List.Sums.{fold_push, sum_by_push, sum_by-cons}
use Rattle.hunt_tally.specs.Tallies.{Took, tallied}
use Rattle.hunt_tally.specs.Counting.{first_of, count_of, noted}
use Rattle.hunt_tally.specs.Executed.{set_of}
use Rattle.hunt_tally.specs.Kinds.{kinds_of, with_run}
use Rattle.hunt_tally.specs.Reports.{Reported, is_flawed, all_stopped, ending_told, result_told, missed_told, flaws_of, Sums, steps_of, executed_in, hunted, has_flaw}
use Rattle.hunt_tally.proofs.ExecutedLemmas.{set_more}
use Rattle.hunt_tally.proofs.Taking.{none_counted, first_within}

module _ {X : Type 0} (test : X → Bool) where
  some_counted : (xs : List X) → list_any test xs ≡ true → 0 < count_by test xs
  some_counted [] some = absurd (true≢false (sym some))
  some_counted (x ∷ xs) some = by (test x) refl (some_counted xs)
    where
      by : (b : Bool) → test x ≡ b → (list_any test xs ≡ true → 0 < count_by test xs) → 0 < count_by test (x ∷ xs)
      by true e rest = let is = sum_by-cons (λ (y : X). cond (test y) 1 0) x xs ∙ ap (λ b. cond b 1 0 + count_by test xs) e in omega (arith, is)
      by false e rest = let is = sum_by-cons (λ (y : X). cond (test y) 1 0) x xs ∙ ap (λ b. cond b 1 0 + count_by test xs) e in
          let less = rest (sym (ap (λ s. s || list_any test xs) e) ∙ some) in omega (arith, is, less)

  -- whether some were counted
  pub is_counted : (xs : List X) → nat_lt 0 (count_by test xs) ≡ list_any test xs
  is_counted xs = by (list_any test xs) refl
    where
      by : (b : Bool) → list_any test xs ≡ b → nat_lt 0 (count_by test xs) ≡ b
      by true e = let less = some_counted xs e in grind (arith, less)
      by false e = let none = (none_counted test xs e).0 in grind (arith, none)

  pub count_push : (xs : List X) (x : X) → count_by test (xs ++ x ∷ []) ≡ count_by test xs + cond (test x) 1 0
  count_push xs x = sum_by_push (λ (y : X). cond (test y) 1 0) xs x

  -- one more
  pub noted_is : (xs : List X) (x : X) → count_of test (xs ++ x ∷ []) ≡ noted (length xs) (test x) (count_of test xs)
  unfolding count_of
  noted_is xs x = by (list_any test xs) refl (test x) refl
    where
      long : length (xs ++ x ∷ []) ≡ length xs + 1
      long = length_push xs x

      place : position_or_len test (xs ++ x ∷ []) ≡ cond (eqb (position_or_len test xs) (length xs)) (length xs + cond (test x) 0 1) (position_or_len test xs)
      place = position_or_len_push test xs x

      by : (a : Bool) → list_any test xs ≡ a → (b : Bool) → test x ≡ b
          → record { runs = count_by test (xs ++ x ∷ []); first = first_of test (xs ++ x ∷ []) } ≡ noted (length xs) b (record { runs = count_by test xs; first = first_of test xs })
      by true some true is =
          let less = first_within test xs some in
          let counted = some_counted xs some in
          let apart : eqb (position_or_len test xs) (length xs) ≡ false = grind (arith, less) in
          let more : eqb (count_by test xs) 0 ≡ false = grind (arith, counted) in
          let here : nat_lt (position_or_len test xs) (length xs) ≡ true = grind (arith, less) in
          let there : nat_lt (position_or_len test xs) (length xs + 1) ≡ true = grind (arith, less) in
          let same : position_or_len test (xs ++ x ∷ []) ≡ position_or_len test xs = place ∙ ap (λ s. cond s (length xs + cond (test x) 0 1) (position_or_len test xs)) apart in
          let n : count_by test (xs ++ x ∷ []) ≡ count_by test xs + 1 = count_push xs x ∙ ap (λ s. count_by test xs + cond s 1 0) is in
          let f : first_of test (xs ++ x ∷ []) ≡ first_of test xs = rw (same, long, here, there) refl in
          rw more (λ i. record { runs = n i; first = f i })
      by true some false is =
          let less = first_within test xs some in
          let apart : eqb (position_or_len test xs) (length xs) ≡ false = grind (arith, less) in
          let here : nat_lt (position_or_len test xs) (length xs) ≡ true = grind (arith, less) in
          let there : nat_lt (position_or_len test xs) (length xs + 1) ≡ true = grind (arith, less) in
          let same : position_or_len test (xs ++ x ∷ []) ≡ position_or_len test xs = place ∙ ap (λ s. cond s (length xs + cond (test x) 0 1) (position_or_len test xs)) apart in
          let n : count_by test (xs ++ x ∷ []) ≡ count_by test xs = count_push xs x ∙ ap (λ s. count_by test xs + cond s 1 0) is ∙ omega arith in
          let f : first_of test (xs ++ x ∷ []) ≡ first_of test xs = rw (same, long, here, there) refl in
          λ i. record { runs = n i; first = f i }
      by false none true is =
          let zero = none_counted test xs none in
          let same : eqb (position_or_len test xs) (length xs) ≡ true = grind (arith, zero.1) in
          let none_yet : eqb (count_by test xs) 0 ≡ true = grind (arith, zero.0) in
          let at : position_or_len test (xs ++ x ∷ []) ≡ length xs = place ∙ ap (λ s. cond s (length xs + cond (test x) 0 1) (position_or_len test xs)) same ∙ ap (λ s. length xs + cond s 0 1) is ∙ omega arith in
          let there : nat_lt (length xs) (length xs + 1) ≡ true = grind arith in
          let n : count_by test (xs ++ x ∷ []) ≡ 1 = count_push xs x ∙ ap (λ s. count_by test xs + cond s 1 0) is ∙ omega (arith, zero.0) in
          let f : first_of test (xs ++ x ∷ []) ≡ length xs = rw (at, long, there) refl in
          rw none_yet (λ i. record { runs = n i; first = f i })
      by false none false is =
          let zero = none_counted test xs none in
          let same : eqb (position_or_len test xs) (length xs) ≡ true = grind (arith, zero.1) in
          let at : position_or_len test (xs ++ x ∷ []) ≡ length xs + 1 = place ∙ ap (λ s. cond s (length xs + cond (test x) 0 1) (position_or_len test xs)) same ∙ ap (λ s. length xs + cond s 0 1) is in
          let there : nat_lt (length xs + 1) (length xs + 1) ≡ false = grind arith in
          let here : nat_lt (length xs) (length xs) ≡ false = grind arith in
          let n : count_by test (xs ++ x ∷ []) ≡ count_by test xs = count_push xs x ∙ ap (λ s. count_by test xs + cond s 1 0) is ∙ omega arith in
          let f : first_of test (xs ++ x ∷ []) ≡ first_of test xs = rw (at, long, there, zero.1, here) refl in
          λ i. record { runs = n i; first = f i }

kinds_more : (reports : List Reported) (r : Reported) → kinds_of (map (λ (x : Reported). x.kind) (reports ++ r ∷ [])) ≡ with_run (kinds_of (map (λ (x : Reported). x.kind) reports)) r.kind
kinds_more reports r = ap kinds_of (map_push (λ (x : Reported). x.kind) reports r) ∙ fold_push with_run [] (map (λ (x : Reported). x.kind) reports) r.kind

executed_more : (reports : List Reported) (r : Reported) → executed_in (reports ++ r ∷ []) ≡ set_of (executed_in reports ++ r.executed)
executed_more reports r =
    ap set_of (flat_map-append (λ (x : Reported). x.executed) reports (r ∷ []) ∙ ap (λ xs. flat_map (λ (x : Reported). x.executed) reports ++ xs) (append-nil r.executed))
    ∙ sym (set_more (flat_map (λ (x : Reported). x.executed) reports) r.executed)

-- what holds where all went well, of what holds there
pub on_ok : {A E : Type 0} {P Q : Type 0} (r : Result A E) → (P → Q) → OnOk r P → OnOk r Q
on_ok (Ok a) f p = f p
on_ok (Err e) f p = tt

-- one report more
pub more : (reports : List Reported) (r : Reported) → hunted (reports ++ r ∷ []) ≡ record {
  runs = length reports + 1;
  all_stopped = count_by all_stopped reports + cond (all_stopped r) 1 0;
  left_out = count_by (λ (x : Reported). x.leaves_out) reports + cond r.leaves_out 1 0;
  steps = steps_of reports + r.steps;
  flaws = record {
    race = noted (length reports) r.flaws.race (flaws_of reports).race;
    stuck = noted (length reports) r.flaws.stuck (flaws_of reports).stuck;
    livelock = noted (length reports) r.flaws.livelock (flaws_of reports).livelock;
    budget = noted (length reports) r.flaws.budget (flaws_of reports).budget;
    fault = noted (length reports) r.flaws.fault (flaws_of reports).fault;
    halt = noted (length reports) r.flaws.halt (flaws_of reports).halt;
    missed = noted (length reports) r.flaws.missed (flaws_of reports).missed;
  };
  kinds = with_run (kinds_of (map (λ (x : Reported). x.kind) reports)) r.kind;
  endings = tallied (map ending_told reports ++ ending_told r ∷ []);
  results = tallied (map result_told reports ++ result_told r ∷ []);
  races = tallied (map (λ (x : Reported). x.races) reports ++ r.races ∷ []);
  missed = tallied (map missed_told reports ++ missed_told r ∷ []);
  findings = tallied (map (λ (x : Reported). x.findings) reports ++ r.findings ∷ []);
  warnings = tallied (map (λ (x : Reported). x.warnings) reports ++ r.warnings ∷ []);
  executed = set_of (executed_in reports ++ r.executed);
}
unfolding hunted flaws_of
more reports r = λ i. record {
  runs = length_push reports r i;
  all_stopped = count_push all_stopped reports r i;
  left_out = count_push (λ (x : Reported). x.leaves_out) reports r i;
  steps = sum_by_push (λ (x : Reported). x.steps) reports r i;
  flaws = record {
    race = noted_is (λ (x : Reported). x.flaws.race) reports r i;
    stuck = noted_is (λ (x : Reported). x.flaws.stuck) reports r i;
    livelock = noted_is (λ (x : Reported). x.flaws.livelock) reports r i;
    budget = noted_is (λ (x : Reported). x.flaws.budget) reports r i;
    fault = noted_is (λ (x : Reported). x.flaws.fault) reports r i;
    halt = noted_is (λ (x : Reported). x.flaws.halt) reports r i;
    missed = noted_is (λ (x : Reported). x.flaws.missed) reports r i;
  };
  kinds = kinds_more reports r i;
  endings = tallied (map_push ending_told reports r i);
  results = tallied (map_push result_told reports r i);
  races = tallied (map_push (λ (x : Reported). x.races) reports r i);
  missed = tallied (map_push missed_told reports r i);
  findings = tallied (map_push (λ (x : Reported). x.findings) reports r i);
  warnings = tallied (map_push (λ (x : Reported). x.warnings) reports r i);
  executed = executed_more reports r i;
}

-- the sums after a report is taken in, by those before
pub record IsMore (r : Reported) (old new : Sums) : Type 0 where
  pub runs : new.runs ≡ old.runs + 1
  pub all_stopped : new.all_stopped ≡ old.all_stopped + cond (all_stopped r) 1 0
  pub left_out : new.left_out ≡ old.left_out + cond r.leaves_out 1 0
  pub steps : new.steps ≡ old.steps + r.steps
  pub race : new.flaws.race ≡ noted old.runs r.flaws.race old.flaws.race
  pub stuck : new.flaws.stuck ≡ noted old.runs r.flaws.stuck old.flaws.stuck
  pub livelock : new.flaws.livelock ≡ noted old.runs r.flaws.livelock old.flaws.livelock
  pub budget : new.flaws.budget ≡ noted old.runs r.flaws.budget old.flaws.budget
  pub fault : new.flaws.fault ≡ noted old.runs r.flaws.fault old.flaws.fault
  pub halt : new.flaws.halt ≡ noted old.runs r.flaws.halt old.flaws.halt
  pub missed : new.flaws.missed ≡ noted old.runs r.flaws.missed old.flaws.missed
  pub kinds : new.kinds ≡ with_run old.kinds r.kind
  pub endings : Took (ending_told r) old.endings new.endings
  pub results : Took (result_told r) old.results new.results
  pub races : Took r.races old.races new.races
  pub lines : Took (missed_told r) old.missed new.missed
  pub findings : Took r.findings old.findings new.findings
  pub warnings : Took r.warnings old.warnings new.warnings
  pub executed : new.executed ≡ set_of (old.executed ++ r.executed)

pub took_report : (r : Reported) (old new : Sums) → IsMore r old new → (reports : List Reported) → old ≡ hunted reports → new ≡ hunted (reports ++ r ∷ [])
unfolding hunted
took_report r old new is reports e = (λ i. record {
  runs = (is.runs ∙ ap (λ (s : Sums). s.runs + 1) e) i;
  all_stopped = (is.all_stopped ∙ ap (λ (s : Sums). s.all_stopped + cond (all_stopped r) 1 0) e) i;
  left_out = (is.left_out ∙ ap (λ (s : Sums). s.left_out + cond r.leaves_out 1 0) e) i;
  steps = (is.steps ∙ ap (λ (s : Sums). s.steps + r.steps) e) i;
  flaws = record {
    race = (is.race ∙ ap (λ (s : Sums). noted s.runs r.flaws.race s.flaws.race) e) i;
    stuck = (is.stuck ∙ ap (λ (s : Sums). noted s.runs r.flaws.stuck s.flaws.stuck) e) i;
    livelock = (is.livelock ∙ ap (λ (s : Sums). noted s.runs r.flaws.livelock s.flaws.livelock) e) i;
    budget = (is.budget ∙ ap (λ (s : Sums). noted s.runs r.flaws.budget s.flaws.budget) e) i;
    fault = (is.fault ∙ ap (λ (s : Sums). noted s.runs r.flaws.fault s.flaws.fault) e) i;
    halt = (is.halt ∙ ap (λ (s : Sums). noted s.runs r.flaws.halt s.flaws.halt) e) i;
    missed = (is.missed ∙ ap (λ (s : Sums). noted s.runs r.flaws.missed s.flaws.missed) e) i;
  };
  kinds = (is.kinds ∙ ap (λ (s : Sums). with_run s.kinds r.kind) e) i;
  endings = is.endings (map ending_told reports) (ap (λ (s : Sums). s.endings) e) i;
  results = is.results (map result_told reports) (ap (λ (s : Sums). s.results) e) i;
  races = is.races (map (λ (x : Reported). x.races) reports) (ap (λ (s : Sums). s.races) e) i;
  missed = is.lines (map missed_told reports) (ap (λ (s : Sums). s.missed) e) i;
  findings = is.findings (map (λ (x : Reported). x.findings) reports) (ap (λ (s : Sums). s.findings) e) i;
  warnings = is.warnings (map (λ (x : Reported). x.warnings) reports) (ap (λ (s : Sums). s.warnings) e) i;
  executed = (is.executed ∙ ap (λ (s : Sums). set_of (s.executed ++ r.executed)) e) i;
}) ∙ sym (more reports r)

-- before the first report
pub no_flaws : record { race = record { runs = 0; first = 0 }; stuck = record { runs = 0; first = 0 }; livelock = record { runs = 0; first = 0 }; budget = record { runs = 0; first = 0 }; fault = record { runs = 0; first = 0 }; halt = record { runs = 0; first = 0 }; missed = record { runs = 0; first = 0 } } ≡ flaws_of []
unfolding flaws_of count_of
no_flaws = refl

pub no_runs : record { runs = 0; all_stopped = 0; left_out = 0; steps = 0; flaws = flaws_of []; kinds = []; endings = tallied []; results = tallied []; races = tallied []; missed = tallied []; findings = tallied []; warnings = tallied []; executed = executed_in [] } ≡ hunted []
unfolding hunted
no_runs = refl

-- ---- whether a run has a flaw

any_or : (f g : Reported → Bool) (xs : List Reported) → (list_any f xs || list_any g xs) ≡ list_any (λ (r : Reported). f r || g r) xs
any_or f g [] = refl
any_or f g (x ∷ xs) = four (f x) (g x) (list_any f xs) (list_any g xs) ∙ ap (λ b. (f x || g x) || b) (any_or f g xs)
  where
    four : (a b c d : Bool) → ((a || c) || (b || d)) ≡ ((a || b) || (c || d))
    four true b c d = refl
    four false true true d = refl
    four false true false d = refl
    four false false c d = refl

pub flawed_is : (reports : List Reported) → has_flaw (flaws_of reports) ≡ list_any is_flawed reports
unfolding flaws_of count_of
flawed_is reports = (λ i. is_counted (λ (r : Reported). r.flaws.race) reports i || is_counted (λ (r : Reported). r.flaws.stuck) reports i || is_counted (λ (r : Reported). r.flaws.livelock) reports i || is_counted (λ (r : Reported). r.flaws.budget) reports i || is_counted (λ (r : Reported). r.flaws.fault) reports i || is_counted (λ (r : Reported). r.flaws.halt) reports i || is_counted (λ (r : Reported). r.flaws.missed) reports i)
    ∙ ap (λ b. b || list_any (λ (r : Reported). r.flaws.livelock) reports || list_any (λ (r : Reported). r.flaws.budget) reports || list_any (λ (r : Reported). r.flaws.fault) reports || list_any (λ (r : Reported). r.flaws.halt) reports || list_any (λ (r : Reported). r.flaws.missed) reports) (any_or (λ (r : Reported). r.flaws.race) (λ (r : Reported). r.flaws.stuck) reports)
    ∙ ap (λ b. b || list_any (λ (r : Reported). r.flaws.budget) reports || list_any (λ (r : Reported). r.flaws.fault) reports || list_any (λ (r : Reported). r.flaws.halt) reports || list_any (λ (r : Reported). r.flaws.missed) reports) (any_or (λ (r : Reported). r.flaws.race || r.flaws.stuck) (λ (r : Reported). r.flaws.livelock) reports)
    ∙ ap (λ b. b || list_any (λ (r : Reported). r.flaws.fault) reports || list_any (λ (r : Reported). r.flaws.halt) reports || list_any (λ (r : Reported). r.flaws.missed) reports) (any_or (λ (r : Reported). r.flaws.race || r.flaws.stuck || r.flaws.livelock) (λ (r : Reported). r.flaws.budget) reports)
    ∙ ap (λ b. b || list_any (λ (r : Reported). r.flaws.halt) reports || list_any (λ (r : Reported). r.flaws.missed) reports) (any_or (λ (r : Reported). r.flaws.race || r.flaws.stuck || r.flaws.livelock || r.flaws.budget) (λ (r : Reported). r.flaws.fault) reports)
    ∙ ap (λ b. b || list_any (λ (r : Reported). r.flaws.missed) reports) (any_or (λ (r : Reported). r.flaws.race || r.flaws.stuck || r.flaws.livelock || r.flaws.budget || r.flaws.fault) (λ (r : Reported). r.flaws.halt) reports)
    ∙ any_or (λ (r : Reported). r.flaws.race || r.flaws.stuck || r.flaws.livelock || r.flaws.budget || r.flaws.fault || r.flaws.halt) (λ (r : Reported). r.flaws.missed) reports

pub flaws_in : (reports : List Reported) → (hunted reports).flaws ≡ flaws_of reports
unfolding hunted
flaws_in reports = refl
