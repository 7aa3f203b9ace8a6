-- The different texts that runs tell, each with how many runs tell it and the first of these.
use Rattle.std.specs.Prelude.{◌≡◌, ℕ, suc, Bool, List, [], ◌∷◌, ◌++◌, map, length, if◌then◌else◌}
use Rattle.std.specs.List.{list_any, count_by, position_or_len, flat_map}
use Rattle.std.specs.Str.{bytes_eq}

-- what a run tells: by `key` two tellings are the same, and `shown` is what is printed of the first one
pub record Tells : Type 0 where
  pub key : List ℕ
  pub shown : List ℕ

-- of tellings with this key: what is printed, how many runs have one, and the first of these runs
pub record Told : Type 0 where
  pub key : List ℕ
  pub shown : List ℕ
  pub runs : ℕ
  pub first : ℕ

-- whether one of the tellings has the key
abbrev pub has : List ℕ → List Tells → Bool
has key tellings = list_any (λ t. bytes_eq key t.key) tellings

-- those whose key neither an earlier one of them has nor one of `before`
unfoldable pub firsts : List Tells → List Tells → List Tells
firsts before [] = []
firsts before (t ∷ ts) = if has t.key before then firsts (t ∷ before) ts else t ∷ firsts (t ∷ before) ts

-- the first telling of each key
abbrev pub distinct : List Tells → List Tells
distinct tellings = firsts [] tellings

-- all tellings of the runs, in their order
abbrev pub all_of : List (List Tells) → List Tells
all_of runs = flat_map (λ run. run) runs

-- the number of the last run that passes the test, where they are counted from n; d where none does
unfoldable pub last_from : (List Tells → Bool) → ℕ → List (List Tells) → ℕ → ℕ
last_from test n [] d = d
last_from test n (run ∷ runs) d = last_from test (suc n) runs (if test run then n else d)

-- a telling as it is counted among the runs
abbrev pub told_of : List (List Tells) → Tells → Told
told_of runs t = record { key = t.key; shown = t.shown; runs = count_by (has t.key) runs; first = position_or_len (has t.key) runs }

-- what the runs tell: each key once, in the order of the first runs that have it, and within a run in the run's order
unfoldable pub told : List (List Tells) → List Told
told runs = map (told_of runs) (distinct (all_of runs))

-- what is kept of it: the last run that tells it, too, so that none is counted twice
pub record Entry : Type 0 where
  pub told : Told
  pub last : ℕ

abbrev pub entry_of : List (List Tells) → Tells → Entry
entry_of runs t = record { told = told_of runs t; last = last_from (has t.key) 0 runs 0 }

-- what a tally is to a contract: how many runs were taken in, and the entries
pub record Tallied : Type 0 where
  pub runs : ℕ
  pub entries : List Entry

unfoldable pub entries_of : List (List Tells) → List Entry
entries_of runs = map (entry_of runs) (distinct (all_of runs))

-- the tally of these runs
abbrev pub tallied : List (List Tells) → Tallied
tallied runs = record { runs = length runs; entries = entries_of runs }

-- what it tells
abbrev pub told_in : Tallied → List Told
told_in tally = map (λ e. e.told) tally.entries

-- one run more is taken in, which tells this
abbrev pub Took : List Tells → Tallied → Tallied → Type 0
Took tellings old new = (runs : List (List Tells)) → old ≡ tallied runs → new ≡ tallied (runs ++ tellings ∷ [])
