-- The entries of a map of counts, when a run more is taken in.
use Rattle.std.proofs.Common.{◌≡◌, ℕ, ◌+◌, ◌≤◌, Bool, true, false, ◌||◌, true≢false, eqb, eq-eqb, eqb-true, List, [], ◌∷◌, ◌++◌, fold, Option, Some, refl, sym, ap, ◌∙◌, arith}
use Rattle.std.specs.Prelude.{if◌then◌else◌}
use Rattle.std.specs.Option.{option_map_or}
use Rattle.std.specs.List.{list_any}
use Rattle.std.specs.Map.{lookup}
use Rattle.std.proofs.lemmas.List.Sums.{sum_by-cons, fold-append}
use Rattle.indexmap.specs.IndexMap.{insert_entry}
use Rattle.hunt_tally.specs.declared.kinds.Kind.{Kind}
use Rattle.hunt_tally.specs.Kinds.{kind_in, kinds_in, kinds_of, runs_of, runs_with, with_run, with_runs, with_kinds}

abbrev pub runs_at : Option ℕ → ℕ
runs_at o = option_map_or (λ n. n) o 0

pub found_runs : (digest : ℕ) (es : List (ℕ × ℕ)) → runs_at (lookup (eqb digest) es) ≡ runs_with (kinds_in es) digest
found_runs digest [] = refl
found_runs digest (e ∷ es) = by (eqb digest e.0) (found_runs digest es)
  where
    by : (b : Bool) → runs_at (lookup (eqb digest) es) ≡ runs_with (kinds_in es) digest → runs_at (if b then Some e.1 else lookup (eqb digest) es) ≡ (if b then e.1 else runs_with (kinds_in es) digest)
    by true rest = refl
    by false rest = rest

pub with_more : (digest runs : ℕ) (es : List (ℕ × ℕ)) → kinds_in (insert_entry eqb es digest (runs_with (kinds_in es) digest + runs)) ≡ with_runs (kinds_in es) digest runs
with_more digest runs [] = let n : 0 + runs ≡ runs = omega arith in ap (λ m. record { digest = digest; runs = m } ∷ []) n
with_more digest runs (e ∷ es) = by (eqb digest e.0) (with_more digest runs es)
  where
    by : (b : Bool) → kinds_in (insert_entry eqb es digest (runs_with (kinds_in es) digest + runs)) ≡ with_runs (kinds_in es) digest runs
        → kinds_in (if b then (e.0, (if b then e.1 else runs_with (kinds_in es) digest) + runs) ∷ es else e ∷ insert_entry eqb es digest ((if b then e.1 else runs_with (kinds_in es) digest) + runs))
        ≡ (if b then record { digest = e.0; runs = e.1 + runs } ∷ kinds_in es else kind_in e ∷ with_runs (kinds_in es) digest runs)
    by true rest = refl
    by false rest = ap (λ ks. kind_in e ∷ ks) rest

abbrev count : Kind → ℕ
count k = k.runs

pub runs-within : (kinds : List Kind) (digest : ℕ) → runs_with kinds digest ≤ runs_of kinds
runs-within [] digest = omega arith
runs-within (k ∷ kinds) digest = by (eqb digest k.digest) (runs-within kinds digest)
  where
    by : (b : Bool) → runs_with kinds digest ≤ runs_of kinds → (if b then k.runs else runs_with kinds digest) ≤ runs_of (k ∷ kinds)
    by true rest = let is = sum_by-cons count k kinds in omega (arith, is)
    by false rest = let is = sum_by-cons count k kinds in omega (arith, is, rest)

pub runs-more : (kinds : List Kind) (digest runs : ℕ) → runs_of (with_runs kinds digest runs) ≡ runs_of kinds + runs
runs-more [] digest runs = let is = sum_by-cons count (record { digest = digest; runs = runs }) [] in omega (arith, is)
runs-more (k ∷ kinds) digest runs = by (eqb digest k.digest) (runs-more kinds digest runs)
  where
    by : (b : Bool) → runs_of (with_runs kinds digest runs) ≡ runs_of kinds + runs → runs_of (if b then record k { runs = k.runs + runs } ∷ kinds else k ∷ with_runs kinds digest runs) ≡ runs_of (k ∷ kinds) + runs
    by true rest = let is = sum_by-cons count k kinds in let more = sum_by-cons count (record k { runs = k.runs + runs }) kinds in omega (arith, is, more)
    by false rest = let is = sum_by-cons count k kinds in let more = sum_by-cons count k (with_runs kinds digest runs) in omega (arith, is, more, rest)

-- ---- the kinds of runs, and of those behind them

abbrev there : ℕ → List Kind → Bool
there digest kinds = list_any (λ (k : Kind). eqb digest k.digest) kinds

same_self : (digest : ℕ) → eqb digest digest ≡ true
same_self digest = eq-eqb digest digest refl

with_again : (kinds : List Kind) (digest runs : ℕ) → with_runs kinds digest (runs + 1) ≡ with_run (with_runs kinds digest runs) digest
with_again [] digest runs = rw (same_self digest) refl
with_again (k ∷ kinds) digest runs = by (eqb digest k.digest) refl (with_again kinds digest runs)
  where
    by : (b : Bool) → eqb digest k.digest ≡ b → with_runs kinds digest (runs + 1) ≡ with_run (with_runs kinds digest runs) digest → with_runs (k ∷ kinds) digest (runs + 1) ≡ with_run (with_runs (k ∷ kinds) digest runs) digest
    by true e rest = let n : k.runs + (runs + 1) ≡ k.runs + runs + 1 = omega arith in rw (e, e) (ap (λ m. record k { runs = m } ∷ kinds) n)
    by false e rest = rw (e, e) (ap (λ ks. k ∷ ks) rest)

with_swapped : (kinds : List Kind) (digest other runs : ℕ) → there digest kinds ≡ true → with_run (with_runs kinds other runs) digest ≡ with_runs (with_run kinds digest) other runs
with_swapped [] digest other runs is = absurd (true≢false (sym is))
with_swapped (k ∷ kinds) digest other runs is = by (eqb digest k.digest) refl (eqb other k.digest) refl (with_swapped kinds digest other runs)
  where
    by : (b : Bool) → eqb digest k.digest ≡ b → (c : Bool) → eqb other k.digest ≡ c → (there digest kinds ≡ true → with_run (with_runs kinds other runs) digest ≡ with_runs (with_run kinds digest) other runs)
        → with_run (with_runs (k ∷ kinds) other runs) digest ≡ with_runs (with_run (k ∷ kinds) digest) other runs
    by true e true f rest = let n : k.runs + runs + 1 ≡ k.runs + 1 + runs = omega arith in rw (f, e, f) (ap (λ m. record k { runs = m } ∷ kinds) n)
    by true e false f rest = rw (f, e, f) refl
    by false e true f rest = rw (f, e, f) refl
    by false e false f rest = rw (f, e, f) (ap (λ ks. k ∷ ks) (rest (sym (ap (λ b. b || there digest kinds) e) ∙ is)))

there_with : (kinds : List Kind) (digest other runs : ℕ) → there digest kinds ≡ true → there digest (with_runs kinds other runs) ≡ true
there_with [] digest other runs is = absurd (true≢false (sym is))
there_with (k ∷ kinds) digest other runs is = by (eqb other k.digest) (eqb digest k.digest) refl (there_with kinds digest other runs)
  where
    by : (c b : Bool) → eqb digest k.digest ≡ b → (there digest kinds ≡ true → there digest (with_runs kinds other runs) ≡ true)
        → there digest (if c then record k { runs = k.runs + runs } ∷ kinds else k ∷ with_runs kinds other runs) ≡ true
    by true b e rest = is
    by false true here rest = rw here refl
    by false false isnt rest = rw isnt (rest (sym (ap (λ b. b || there digest kinds) isnt) ∙ is))

there_now : (kinds : List Kind) (digest runs : ℕ) → there digest (with_runs kinds digest runs) ≡ true
there_now [] digest runs = rw (same_self digest) refl
there_now (k ∷ kinds) digest runs = by (eqb digest k.digest) refl (there_now kinds digest runs)
  where
    by : (b : Bool) → eqb digest k.digest ≡ b → there digest (with_runs kinds digest runs) ≡ true → there digest (with_runs (k ∷ kinds) digest runs) ≡ true
    by true e rest = rw (e, e) refl
    by false e rest = rw (e, e) rest

with_behind : (behind kinds : List Kind) (digest : ℕ) → there digest kinds ≡ true → with_kinds (with_run kinds digest) behind ≡ with_run (with_kinds kinds behind) digest
with_behind [] kinds digest is = refl
with_behind (k ∷ behind) kinds digest is = ap (λ ks. with_kinds ks behind) (sym (with_swapped kinds digest k.digest k.runs is)) ∙ with_behind behind (with_runs kinds k.digest k.runs) digest (there_with kinds digest k.digest k.runs is)

-- a run more of those behind is a run more of all
with_last : (behind kinds : List Kind) (digest : ℕ) → with_kinds kinds (with_run behind digest) ≡ with_run (with_kinds kinds behind) digest
with_last [] kinds digest = refl
with_last (k ∷ behind) kinds digest = by (eqb digest k.digest) refl (with_last behind (with_runs kinds k.digest k.runs) digest)
  where
    by : (b : Bool) → eqb digest k.digest ≡ b → with_kinds (with_runs kinds k.digest k.runs) (with_run behind digest) ≡ with_run (with_kinds (with_runs kinds k.digest k.runs) behind) digest
        → with_kinds kinds (with_run (k ∷ behind) digest) ≡ with_run (with_kinds kinds (k ∷ behind)) digest
    by true e rest =
        let here : with_kinds (with_runs kinds k.digest (k.runs + 1)) behind ≡ with_run (with_kinds (with_runs kinds k.digest k.runs) behind) k.digest
        = ap (λ ks. with_kinds ks behind) (with_again kinds k.digest k.runs) ∙ with_behind behind (with_runs kinds k.digest k.runs) k.digest (there_now kinds k.digest k.runs) in
        rw e (here ∙ ap (λ d. with_run (with_kinds (with_runs kinds k.digest k.runs) behind) d) (sym (eqb-true digest k.digest e)))
    by false e rest = rw e rest

with_all : (digests : List ℕ) (kinds behind : List Kind) → with_kinds kinds (fold with_run behind digests) ≡ fold with_run (with_kinds kinds behind) digests
with_all [] kinds behind = refl
with_all (d ∷ digests) kinds behind = with_all digests kinds (with_run behind d) ∙ ap (λ ks. fold with_run ks digests) (with_last behind kinds d)

pub kinds_joined : (digests behind : List ℕ) → with_kinds (kinds_of digests) (kinds_of behind) ≡ kinds_of (digests ++ behind)
kinds_joined digests behind = with_all behind (kinds_of digests) [] ∙ sym (fold-append with_run [] digests behind)
