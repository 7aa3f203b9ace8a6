-- What a tally tells is what its runs tell.
use Rattle.std.proofs.Common.{◌≡◌, ◌||◌, true, List, [], ◌∷◌, ◌++◌, length, map, refl, sym, ap, ◌∙◌, arith}
use Rattle.std.specs.Prelude.{nat_lt}
use Rattle.std.specs.List.{list_any}
use Rattle.hunt_tally.specs.Tallies.{Tells, Entry, firsts, told_of, entry_of, told, entries_of, tallied, told_in, distinct, all_of}
use Rattle.hunt_tally.specs.Reports.{Reported, is_warned, hunted}

each_told : (runs : List (List Tells)) (ts : List Tells) → map (λ (e : Entry). e.told) (map (entry_of runs) ts) ≡ map (told_of runs) ts
each_told runs [] = refl
each_told runs (t ∷ ts) = ap (λ xs. told_of runs t ∷ xs) (each_told runs ts)

pub told_tallied : (runs : List (List Tells)) → told_in (tallied runs) ≡ told runs
unfolding told entries_of
told_tallied runs = each_told runs (distinct (all_of runs))

-- ---- whether a run has a warning

-- something is told where a run tells something
some_told : (runs : List (List Tells)) → nat_lt 0 (length (told_in (tallied runs))) ≡ nat_lt 0 (length (all_of runs))
unfolding entries_of firsts
some_told runs = by (all_of runs)
  where
    by : (us : List Tells) → nat_lt 0 (length (map (λ (e : Entry). e.told) (map (entry_of runs) (distinct us)))) ≡ nat_lt 0 (length us)
    by [] = refl
    by (u ∷ us) = grind arith

some_warned : (reports : List Reported) → nat_lt 0 (length (all_of (map (λ (r : Reported). r.warnings) reports))) ≡ list_any is_warned reports
some_warned [] = refl
some_warned (r ∷ reports) = by r.warnings (some_warned reports)
  where
    by : (ts : List Tells) → nat_lt 0 (length (all_of (map (λ (x : Reported). x.warnings) reports))) ≡ list_any is_warned reports
        → nat_lt 0 (length (ts ++ all_of (map (λ (x : Reported). x.warnings) reports))) ≡ (nat_lt 0 (length ts) || list_any is_warned reports)
    by [] rest = rest
    by (t ∷ ts) rest = let here : nat_lt 0 (length ((t ∷ ts) ++ all_of (map (λ (x : Reported). x.warnings) reports))) ≡ true = grind arith in
        let own : nat_lt 0 (length (t ∷ ts)) ≡ true = grind arith in
        here ∙ sym (ap (λ b. b || list_any is_warned reports) own)

pub warned_is : (reports : List Reported) → nat_lt 0 (length (told_in (hunted reports).warnings)) ≡ list_any is_warned reports
unfolding hunted
warned_is reports = some_told (map (λ (r : Reported). r.warnings) reports) ∙ some_warned reports
