-- What one run tells, and what runs tell together.
use Rattle.std.specs.Prelude.{ℕ, ◌+◌, Bool, not, ◌||◌, nat_lt, List, [], ◌∷◌, ◌++◌, map, length, drop}
use Rattle.std.specs.List.{count_by, flat_map, sum_by}
use Rattle.cell_base.specs.Records.{line_feed}
use Rattle.hunt_tally.specs.declared.flaws.Flaws.{Flaws}
use Rattle.hunt_tally.specs.declared.flaws.FlawCounts.{FlawCounts}
use Rattle.hunt_tally.specs.Tallies.{Tells, Told, Tallied, tallied}
use Rattle.hunt_tally.specs.Counting.{count_of}
use Rattle.hunt_tally.specs.declared.kinds.Kind.{Kind}
use Rattle.hunt_tally.specs.Kinds.{kinds_of}
use Rattle.hunt_tally.specs.Executed.{set_of}

-- what one run tells
pub record Reported : Type 0 where
  pub flaws : Flaws
  pub ending : List ℕ
  pub result : List ℕ
  pub races : List Tells
  pub missed : List (List ℕ)
  pub findings : List Tells  -- a key begins with the word of the finding's kind
  pub warnings : List Tells  -- so does a warning's
  pub leaves_out : Bool
  pub kind : ℕ  -- its digest
  pub steps : ℕ  -- how many
  pub executed : List ℕ  -- the numbers of the instructions that it executed

-- whether something went wrong in it
abbrev pub is_flawed : Reported → Bool
is_flawed r = r.flaws.race || r.flaws.stuck || r.flaws.livelock || r.flaws.budget || r.flaws.fault || r.flaws.halt || r.flaws.missed

-- whether all its processors stopped
abbrev pub all_stopped : Reported → Bool
all_stopped r = not (r.flaws.stuck || r.flaws.livelock || r.flaws.budget)

-- whether it has a warning
abbrev pub is_warned : Reported → Bool
is_warned r = nat_lt 0 (length r.warnings)

-- ---- its tellings

abbrev pub ending_told : Reported → List Tells
ending_told r = record { key = r.ending; shown = [] } ∷ []

-- a result is one within its ending, and shown by it
abbrev pub result_told : Reported → List Tells
result_told r = record { key = r.ending ++ line_feed ++ r.result; shown = r.ending } ∷ []

-- the result of such a telling
abbrev pub result_in : Told → List ℕ
result_in t = drop (length t.shown + 1) t.key

abbrev pub line_told : List ℕ → Tells
line_told line = record { key = line; shown = [] }

abbrev pub missed_told : Reported → List Tells
missed_told r = map line_told r.missed

-- ---- of all runs

-- how many runs have each flaw, and the first of them
unfoldable pub flaws_of : List Reported → FlawCounts
flaws_of reports = record {
  race = count_of (λ (r : Reported). r.flaws.race) reports;
  stuck = count_of (λ (r : Reported). r.flaws.stuck) reports;
  livelock = count_of (λ (r : Reported). r.flaws.livelock) reports;
  budget = count_of (λ (r : Reported). r.flaws.budget) reports;
  fault = count_of (λ (r : Reported). r.flaws.fault) reports;
  halt = count_of (λ (r : Reported). r.flaws.halt) reports;
  missed = count_of (λ (r : Reported). r.flaws.missed) reports;
}

-- how many steps the runs have
abbrev pub steps_of : List Reported → ℕ
steps_of reports = sum_by (λ (r : Reported). r.steps) reports

-- the instructions that one of the runs executed, by their numbers
abbrev pub executed_in : List Reported → List ℕ
executed_in reports = set_of (flat_map (λ (r : Reported). r.executed) reports)

-- what runs tell together
pub record Sums : Type 0 where
  pub runs : ℕ
  pub all_stopped : ℕ
  pub left_out : ℕ
  pub steps : ℕ
  pub flaws : FlawCounts
  pub kinds : List Kind
  pub endings : Tallied
  pub results : Tallied
  pub races : Tallied
  pub missed : Tallied
  pub findings : Tallied
  pub warnings : Tallied
  pub executed : List ℕ

-- what the runs of these reports tell together
unfoldable pub hunted : List Reported → Sums
hunted reports = record {
  runs = length reports;
  all_stopped = count_by all_stopped reports;
  left_out = count_by (λ (r : Reported). r.leaves_out) reports;
  steps = steps_of reports;
  flaws = flaws_of reports;
  kinds = kinds_of (map (λ (r : Reported). r.kind) reports);
  endings = tallied (map ending_told reports);
  results = tallied (map result_told reports);
  races = tallied (map (λ (r : Reported). r.races) reports);
  missed = tallied (map missed_told reports);
  findings = tallied (map (λ (r : Reported). r.findings) reports);
  warnings = tallied (map (λ (r : Reported). r.warnings) reports);
  executed = executed_in reports;
}

-- whether a flaw was counted
abbrev pub has_flaw : FlawCounts → Bool
has_flaw c = nat_lt 0 c.race.runs || nat_lt 0 c.stuck.runs || nat_lt 0 c.livelock.runs || nat_lt 0 c.budget.runs || nat_lt 0 c.fault.runs || nat_lt 0 c.halt.runs || nat_lt 0 c.missed.runs
