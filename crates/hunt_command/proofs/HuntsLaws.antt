-- What runs tell, while they are made.
use Rattle.std.proofs.Common.{◌≡◌, ℕ, ◌+◌, ◌<◌, ◌≤◌, Bool, true, false, eqb, eqb-true, List, [], ◌∷◌, ◌++◌, length, take, refl, sym, ap, subst, ◌∙◌, arith, length-append}
use Rattle.std.specs.Prelude.{◌||◌, nat_lt, Option, Result, Ok, Err, IfOk}
use Rattle.std.specs.List.{flat_map, list_any}
use Rattle.std.proofs.lemmas.List.{append-nil, length_push, length-take-le}
use Rattle.std.proofs.lemmas.List.Sums.{sum_by-cons}
use Rattle.std.proofs.lemmas.List.Folds.{list_any-append}
use Rattle.std.proofs.lemmas.List.Concat.{flat_map-append}
use Rattle.cell_machine.specs.Opening.{Opening}
use Rattle.cell_machine.specs.Run.{Ran}
use Rattle.hunt_tally.specs.Reports.{Reported, Sums, steps_of, hunted}
use Rattle.hunt_reports.specs.declared.asked.Asked.{Asked as Question}
use Rattle.hunt_command.specs.declared.each.Told.{Told}
use Rattle.hunt_command.specs.declared.input.Target.{Target}
use Rattle.hunt_command.specs.declared.parts.Part.{Part}
use Rattle.hunt_command.specs.Words.{Asked}
use Rattle.hunt_command.specs.Hunts.{Each, status_of, text_by, ends_at, ends_with, is_found, TellsHunt, TellsEach, HasTaken, HasMade, IsReportOfSeed, AreReports, IsPart, IsTold, TellsRuns, told_line, is_racy}
use Rattle.hunt_command.proofs.Eaches.{each-none, each-append, each-snoc}

pub runs_of : (reports : List Reported) → (hunted reports).runs ≡ length reports
unfolding hunted
runs_of reports = refl

or-false : (b : Bool) → b || false ≡ b
or-false true = refl
or-false false = refl

any_more : (xs : List Told) (x : Told) → list_any is_racy (xs ++ x ∷ []) ≡ list_any is_racy xs || is_racy x
any_more xs x = list_any-append is_racy xs (x ∷ []) ∙ ap (λ b. list_any is_racy xs || b) (or-false (is_racy x))

lines_more : (xs : List Told) (x : Told) → flat_map told_line (xs ++ x ∷ []) ≡ flat_map told_line xs ++ told_line x
lines_more xs x = flat_map-append told_line xs (x ∷ []) ∙ ap (λ (l : List ℕ). flat_map told_line xs ++ l) (append-nil (told_line x))

pub told_none : (setup : Opening) (seed from : ℕ) (text : List ℕ) → text ≡ [] → TellsRuns setup seed from 0 text false
told_none setup seed from text is = record { all = []; count = refl; each = each-none (IsTold setup seed) from; says = is; found = refl }

-- one more run
pub told_more : (setup : Opening) (seed from runs : ℕ) (old new : List ℕ) (was is : Bool) (t : Told) → IsTold setup seed (from + runs) t → new ≡ old ++ told_line t → is ≡ is_racy t → TellsRuns setup seed from runs old was → TellsRuns setup seed from (runs + 1) new (was || is)
told_more setup seed from runs old new was is t told text racy so_far = record {
  all = so_far.all ++ t ∷ [];
  count = length_push so_far.all t ∙ (let n = so_far.count in omega (arith, n));
  each = each-snoc (IsTold setup seed) from (from + runs) so_far.all t (let n = so_far.count in omega (arith, n)) so_far.each told;
  says = text ∙ ap (λ (x : List ℕ). x ++ told_line t) so_far.says ∙ sym (lines_more so_far.all t);
  found = ap (λ b. b || is) so_far.found ∙ ap (λ b. list_any is_racy so_far.all || b) racy ∙ sym (any_more so_far.all t);
}

-- ---- what is taken in

-- one more report
pub has_next : (q : Target) (seed from made : ℕ) (old new : Sums) (r : Reported) → HasTaken q seed from made old → IsReportOfSeed q.setup q.asked seed (from + made) r
    → ((before : List Reported) → old ≡ hunted before → new ≡ hunted (before ++ r ∷ [])) → HasTaken q seed from (made + 1) new
has_next q seed from made old new r taken is goes =
    let count = taken.count in
    record {
      reports = taken.reports ++ r ∷ [];
      count = length_push taken.reports r ∙ omega (arith, count);
      each = each-snoc (IsReportOfSeed q.setup q.asked seed) from (from + made) taken.reports r (omega (arith, count)) taken.each is;
      told = goes taken.reports taken.told;
    }

-- the reports of the runs behind these
pub has_more : (q : Target) (seed from made runs : ℕ) (old behind new : Sums) → HasTaken q seed from made old → HasTaken q seed (from + made) runs behind
    → ((before after : List Reported) → old ≡ hunted before → behind ≡ hunted after → new ≡ hunted (before ++ after)) → HasTaken q seed from (made + runs) new
has_more q seed from made runs old behind new taken more goes =
    let both = length-append taken.reports more.reports in
    let count = taken.count in
    let all = more.count in
    record {
      reports = taken.reports ++ more.reports;
      count = omega (arith, both, count, all);
      each = each-append (IsReportOfSeed q.setup q.asked seed) from (from + made) taken.reports more.reports (omega (arith, count)) taken.each more.each;
      told = goes taken.reports more.reports taken.told more.told;
    }

pub has_none : (q : Target) (seed from : ℕ) (h : Sums) → h ≡ hunted [] → HasTaken q seed from 0 h
has_none q seed from h is = record { reports = []; count = refl; each = each-none (IsReportOfSeed q.setup q.asked seed) from; told = is }

pub taken_runs : (q : Target) (seed from made : ℕ) (h : Sums) → HasTaken q seed from made h → h.runs ≡ made
taken_runs q seed from made h taken = ap (λ s. s.runs) taken.told ∙ runs_of taken.reports ∙ taken.count

-- runs that follow one another are a part
pub part_of : (q : Target) (seed from count : ℕ) (part : Part) → HasTaken q seed (from + part.first) count part.sums → IsPart q seed from (part.first + count) part
part_of q seed from count part taken =
    let runs = taken_runs q seed (from + part.first) count part.sums taken in
    record { taken = subst (λ n. HasTaken q seed (from + part.first) n part.sums) (sym runs) taken; within = omega (arith, runs) }

pub part_before : (q : Target) (seed from end later : ℕ) (part : Part) → end ≤ later → IsPart q seed from end part → IsPart q seed from later part
part_before q seed from end later part less is = record { taken = is.taken; within = let within = is.within in omega (arith, within, less) }

pub each_tells : (setup : Opening) (seed from runs : ℕ) (text : List ℕ) (racy : Bool) → TellsRuns setup seed from runs text racy → TellsEach setup from runs seed (status_of racy) text
each_tells setup seed from runs text racy t = record { all = t.all; count = t.count; each = t.each; says = t.says; found = ap status_of t.found }

pub if_ok : {A E : Type 0} (P Q : A → Type 0) (r : Result A E) → ((x : A) → P x → Q x) → IfOk r P → IfOk r Q
if_ok P Q (Ok x) each holds = each x holds
if_ok P Q (Err e) each holds = tt

pub of_ok : {A E : Type 0} (P : A → Type 0) (r : Result A E) (x : A) → r ≡ Ok x → IfOk r P → P x
of_ok P r x is holds = subst (λ o. IfOk o P) is holds

-- ---- after which runs a hunt ends

-- a run has one number of steps
same_steps : (setup : Opening) (question : Question) (seed run : ℕ) (r other : Reported) → IsReportOfSeed setup question seed run r → IsReportOfSeed setup question seed run other → other.steps ≡ r.steps
same_steps setup question seed run r other is too =
    ap (λ (x : Reported). x.steps) too.told.told ∙ ap (λ (m : Ran). length m.steps) (is.only too.machine too.made) ∙ sym (ap (λ (x : Reported). x.steps) is.told.told)

-- and so have the first runs
first_steps : (setup : Opening) (question : Question) (seed from : ℕ) (xs ys : List Reported) → AreReports setup question seed from xs → AreReports setup question seed from ys → length xs ≤ length ys
    → steps_of (take (length xs) ys) ≡ steps_of xs
unfolding Each
first_steps setup question seed from [] ys are too within = refl
first_steps setup question seed from (x ∷ xs) [] are too within = absurd (let none : ⊥ = omega (arith, within) in none)
first_steps setup question seed from (x ∷ xs) (y ∷ ys) are too within =
    let one : y.steps ≡ x.steps = same_steps setup question seed from x y are.0 too.0 in
    let rest : steps_of (take (length xs) ys) ≡ steps_of xs = first_steps setup question seed (from + 1) xs ys are.1 too.1 (omega (arith, within)) in
    sum_by-cons (λ (r : Reported). r.steps) y (take (length xs) ys) ∙ (λ i. one i + rest i) ∙ sym (sum_by-cons (λ (r : Reported). r.steps) x xs)

steps_in : (reports : List Reported) → (hunted reports).steps ≡ steps_of reports
unfolding hunted
steps_in reports = refl

pub taken_steps : (q : Target) (seed from made : ℕ) (h : Sums) (taken : HasTaken q seed from made h) → h.steps ≡ steps_of taken.reports
taken_steps q seed from made h taken = ap (λ (s : Sums). s.steps) taken.told ∙ steps_in taken.reports

-- the hunt ends with none of the first runs, fewer than so many
abbrev pub NoneEnds : Target → ℕ → ℕ → Option ℕ → ℕ → Type 0
NoneEnds q seed from asked made =
    (reports : List Reported) → AreReports q.setup q.asked seed from reports → (n : ℕ) → n < made → n ≤ length reports → ends_with asked (take n reports) ≡ false

pub none_ends_yet : (q : Target) (seed from : ℕ) (asked : Option ℕ) → NoneEnds q seed from asked 0
none_ends_yet q seed from asked = λ reports are n less within. absurd (let none : ⊥ = omega (arith, less) in none)

-- it doesn't end with the runs that were made
none_ends_here : (q : Target) (seed from made : ℕ) (asked : Option ℕ) (h : Sums) → HasTaken q seed from made h → ends_at asked made h.steps ≡ false
    → (reports : List Reported) → AreReports q.setup q.asked seed from reports → made ≤ length reports → ends_with asked (take made reports) ≡ false
none_ends_here q seed from made asked h taken goes reports are within =
    let count = taken.count in
    let long : length (take made reports) ≡ made = length-take-le made reports within in
    let same : steps_of (take made reports) ≡ h.steps =
    ap (λ n. steps_of (take n reports)) (sym count) ∙ first_steps q.setup q.asked seed from taken.reports reports taken.each are (omega (arith, count, within)) ∙ sym (taken_steps q seed from made h taken) in
    (λ i. ends_at asked (long i) (same i)) ∙ goes

-- nor with more runs before the next end
pub none_ends_next : (q : Target) (seed from made all : ℕ) (asked : Option ℕ) (h : Sums) → HasTaken q seed from made h → NoneEnds q seed from asked made → ends_at asked made h.steps ≡ false
    → ((n steps : ℕ) → made < n → n < all → ends_at asked n steps ≡ false) → NoneEnds q seed from asked all
none_ends_next q seed from made all asked h taken none goes next = λ reports are n less within. by reports are n less within (nat_lt n made) refl (eqb n made) refl
  where
    by : (reports : List Reported) → AreReports q.setup q.asked seed from reports → (n : ℕ) → n < all → n ≤ length reports
        → (before : Bool) → nat_lt n made ≡ before → (here : Bool) → eqb n made ≡ here → ends_with asked (take n reports) ≡ false
    by reports are n less within true before here is = none reports are n (grind (arith, before)) within
    by reports are n less within false before true is =
        let same : n ≡ made = eqb-true n made is in
        subst (λ k. ends_with asked (take k reports) ≡ false) (sym same) (none_ends_here q seed from made asked h taken goes reports are (omega (arith, same, within)))
    by reports are n less within false before false is =
        let long : length (take n reports) ≡ n = length-take-le n reports within in
        ap (λ k. ends_at asked k (steps_of (take n reports))) long ∙ next n (steps_of (take n reports)) (grind (arith, before, is)) less

-- all of them were made, or as many as were made when somebody ended it
pub has_all : (q : Target) (seed from made : ℕ) (asked : Option ℕ) (stopped : Bool) (h : Sums) → HasTaken q seed from made h → NoneEnds q seed from asked made → 0 < made
    → (stopped ≡ false → ends_at asked made h.steps ≡ true) → HasMade q seed from asked stopped h
has_all q seed from made asked stopped h taken none some ends =
    let count = taken.count in
    record {
      made = made;
      taken = taken;
      all = record {
        some = omega (arith, count, some);
        first = λ n less. none taken.reports taken.each n (omega (arith, count, less)) (omega (arith, less));
        all = λ goes. (λ i. ends_at asked (count i) (sym (taken_steps q seed from made h taken) i)) ∙ ends goes;
      };
    }

-- ---- a hunt

pub hunt_tells : (q : Target) (a : Asked) (stopped : Bool) (h : Sums) (text : List ℕ) (found : Bool) → HasMade q a.seed a.from a.runs stopped h
    → ((reports : List Reported) → h ≡ hunted reports → found ≡ is_found a.warn reports) → text ≡ text_by q.asked.places a h → TellsHunt q.setup q.asked a stopped (status_of found) text
hunt_tells q a stopped h text found has finds is = record {
  reports = has.taken.reports;
  made = has.all;
  each = has.taken.each;
  says = is ∙ ap (text_by q.asked.places a) has.taken.told;
  found = ap status_of (finds has.taken.reports has.taken.told);
}
