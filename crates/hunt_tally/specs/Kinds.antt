-- The kinds of runs, each by a number, its digest, with how many runs are of it.
use Rattle.std.specs.Prelude.{ℕ, ◌+◌, ◌==◌, List, [], ◌∷◌, map, fold, if◌then◌else◌}
use Rattle.std.specs.List.{count_by, sum_by}
use Rattle.hunt_tally.specs.declared.kinds.Kind.{Kind}

-- so many runs more of a kind: they are counted with those of it, or the kind comes behind the others
abbrev pub with_runs : List Kind → ℕ → ℕ → List Kind
with_runs [] digest runs = record { digest = digest; runs = runs } ∷ []
with_runs (k ∷ kinds) digest runs = if digest == k.digest then record k { runs = k.runs + runs } ∷ kinds else k ∷ with_runs kinds digest runs

-- one run more
abbrev pub with_run : List Kind → ℕ → List Kind
with_run kinds digest = with_runs kinds digest 1

-- the kinds of the runs behind them, too
abbrev pub with_kinds : List Kind → List Kind → List Kind
with_kinds kinds [] = kinds
with_kinds kinds (k ∷ behind) = with_kinds (with_runs kinds k.digest k.runs) behind

-- the kinds of the runs of which these are the digests, in the order of their first runs
abbrev pub kinds_of : List ℕ → List Kind
kinds_of digests = fold with_run [] digests

-- how many of them one run alone is of
abbrev pub seen_once : List Kind → ℕ
seen_once kinds = count_by (λ (k : Kind). k.runs == 1) kinds

-- how many runs are of one of them
abbrev pub runs_with : List Kind → ℕ → ℕ
runs_with [] digest = 0
runs_with (k ∷ kinds) digest = if digest == k.digest then k.runs else runs_with kinds digest

-- how many runs there are
abbrev pub runs_of : List Kind → ℕ
runs_of kinds = sum_by (λ (k : Kind). k.runs) kinds

-- the kinds that the entries of a map stand for
abbrev pub kind_in : ℕ × ℕ → Kind
kind_in e = record { digest = e.0; runs = e.1 }

abbrev pub kinds_in : List (ℕ × ℕ) → List Kind
kinds_in entries = map kind_in entries
