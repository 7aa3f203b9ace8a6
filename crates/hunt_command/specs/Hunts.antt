-- The runs of a hunt, and what is written of them.
use Rattle.std.specs.Prelude.{◌≡◌, ℕ, ◌+◌, ◌%◌, ◌==◌, ◌||◌, ◌&&◌, nat_le, nat_lt, Bool, true, false, List, ◌++◌, length, take, codes, Option, Some, None, ◌<◌, ◌≤◌, [], ◌∷◌, is_some, is_none, IsTrue, ◌↔◌, ◌^◌, if◌then◌else◌, Result, IfOk, OnOk, All, Vec}
use Rattle.std.specs.declared.alloc.AllocError.{AllocError}
use Rattle.std.specs.declared.alloc.Global.{Global}
use Rattle.hunt_command.specs.declared.input.Target.{Target}
use Rattle.std.specs.Borrow.{Bor, MutBor}
use Rattle.std.specs.List.{flat_map, list_any}
use Rattle.std.specs.Fmt.{decimal}
use Rattle.cell_machine.specs.Opening.{Opening}
use Rattle.cell_machine.specs.Run.{Ran}
use Rattle.cell_machine.specs.declared.status.End.{End}
use Rattle.cell_machine.specs.declared.status.End.TheVariants.{AllStopped, Stuck, Budget}
use Rattle.cell_hunt.specs.Runs.{IsRunOfSeed}
use Rattle.cell_hunt.specs.Outcomes.{IsOutcome}
use Rattle.cell_hunt.specs.declared.site.Sites.{Sites}
use Rattle.reorder_laws.specs.Settled.{IsSettled}
use Rattle.hunt_tally.specs.Coverage.{SourceLines}
use Rattle.hunt_tally.specs.Reports.{Reported, Sums, steps_of, hunted, is_flawed, is_warned}
use Rattle.hunt_texts.specs.About.{Facts}
use Rattle.hunt_texts.specs.Texts.{hunt_text}
use Rattle.hunt_texts.specs.Jsons.{hunt_json}
use Rattle.hunt_reports.specs.declared.asked.Asked.{Asked as Question}
use Rattle.hunt_reports.specs.Places.{sites_text}
use Rattle.hunt_reports.specs.Coverage.{coverage_of}
use Rattle.hunt_reports.specs.declared.origins.Places.{Places}
use Rattle.hunt_reports.specs.Reports.{IsReport}
use Rattle.hunt_command.specs.declared.fault.Status.{Status}
use Rattle.hunt_command.specs.declared.fault.Status.TheVariants.{Clean, Found}
use Rattle.hunt_command.specs.declared.each.Told.{Told}
use Rattle.hunt_command.specs.declared.parts.Part.{Part}
use Rattle.hunt_command.specs.declared.batch.Batch.{Batch}
use Rattle.hunt_command.specs.declared.words.Hunt.{Hunt}
use Rattle.hunt_command.specs.declared.words.Warn.{Warn}
use Rattle.hunt_command.specs.declared.words.Warn.TheVariants.{Off, Print, Error}
use Rattle.hunt_command.specs.Words.{Asked, most_made}

-- it holds of each element with its number, of which the first is n
unfoldable pub Each : {X : Type 0} → (ℕ → X → Type 0) → ℕ → List X → Type 0
Each P n [] = Unit {0}
Each P n (x ∷ xs) = P n x × Each P (n + 1) xs

-- nothing was found, or something
abbrev pub status_of : Bool → Status
status_of false = Clean
status_of true = Found

-- ---- hunts

-- this is the report of run `run` of the seed: there is one such run alone
pub record IsReportOfSeed (setup : Opening) (question : Question) (seed run : ℕ) (r : Reported) : Type 0 where
  pub machine : Ran
  pub made : IsRunOfSeed setup seed run machine
  pub only : (other : Ran) → IsRunOfSeed setup seed run other → other ≡ machine
  pub told : IsReport machine question r

-- these are the reports of runs of the seed, as many as there are from number `from` on
abbrev pub AreReports : Opening → Question → ℕ → ℕ → List Reported → Type 0
AreReports setup question seed from reports = Each (IsReportOfSeed setup question seed) from reports

-- Whether a hunt ends after so many runs, which have so many steps together. With `--runs` it ends after as many as that says. Without it, it ends after
-- 200, 300, 400, .. runs once these have 20,000,000 steps or more, and at the latest after 1,000.
abbrev pub ends_at : Option ℕ → ℕ → ℕ → Bool
ends_at (Some asked) runs steps = runs == asked
ends_at None runs steps = runs == 1000 || (nat_le 200 runs && runs % 100 == 0 && nat_le 20000000 steps)

abbrev pub ends_with : Option ℕ → List Reported → Bool
ends_with asked reports = ends_at asked (length reports) (steps_of reports)

-- These are the reports of all runs that a hunt makes: it ends with them, and with no fewer of them. Where somebody ended it there may be fewer, but some.
pub record AreMade (stopped : Bool) (asked : Option ℕ) (reports : List Reported) : Type 0 where
  pub some : 0 < length reports
  pub first : (n : ℕ) → n < length reports → ends_with asked (take n reports) ≡ false
  pub all : stopped ≡ false → ends_with asked reports ≡ true

-- whether its steps ended a hunt that could have made more runs
abbrev pub is_by_steps : Option ℕ → Sums → Bool
is_by_steps asked h = is_none asked && nat_lt h.runs (most_made asked) && ends_at asked h.runs h.steps

-- what the text says of the hunt besides the sums of its runs
abbrev pub facts_of : Asked → Sums → List SourceLines → Facts
facts_of a h coverage = record {
  machine = a.machine;
  tools = a.tools;
  seed = a.seed;
  from = a.from;
  expects = is_some a.expect;
  by_steps = is_by_steps a.runs h;
  all = a.all;
  coverage = coverage;
}

-- the text of what was found, in the form that is asked for, with the lines of these sources
abbrev pub text_with : Asked → Sums → List SourceLines → List ℕ
text_with a h coverage = if a.json then hunt_json h a.seed a.from (is_some a.expect) coverage else hunt_text h (facts_of a h coverage)

abbrev pub text_by : Places → Asked → Sums → List ℕ
text_by places a h = text_with a h (coverage_of places h.executed)

-- whether something was found: a failure, or a warning if these count as failures
abbrev pub is_found : Warn → List Reported → Bool
is_found Error reports = list_any is_flawed reports || list_any is_warned reports
is_found Print reports = list_any is_flawed reports
is_found Off reports = list_any is_flawed reports

-- The text tells the reports of the runs that are asked for, of the first ones alone where somebody ended the hunt, and the status whether something
-- was found in one of them.
pub record TellsHunt (setup : Opening) (question : Question) (a : Asked) (stopped : Bool) (status : Status) (text : List ℕ) : Type 0 where
  pub reports : List Reported
  pub made : AreMade stopped a.runs reports
  pub each : AreReports setup question a.seed a.from reports
  pub says : text ≡ text_by question.places a (hunted reports)
  pub found : status ≡ status_of (is_found a.warn reports)

-- ---- each run

abbrev pub end_word : End → List ℕ
end_word AllStopped = codes "AllStopped"
end_word Stuck = codes "Stuck"
end_word Budget = codes "Budget"

-- its race, or whether it is settled
abbrev pub race_text : Option Sites → Bool → List ℕ
race_text (Some sites) settled = sites_text sites
race_text None true = codes ", settled"
race_text None false = codes ", not settled"

-- the line of a run
abbrev pub told_line : Told → List ℕ
told_line t = codes "run " ++ decimal t.run ++ codes " " ++ end_word t.outcome.end ++ race_text t.outcome.race t.settled ++ codes "\n"

-- this is printed of a run
pub record IsToldOf (machine : Ran) (t : Told) : Type 0 where
  pub outcome : IsOutcome machine t.outcome
  pub settled : t.outcome.race ≡ None → IsTrue t.settled ↔ IsSettled machine

-- this is printed of run `run` of the seed
pub record IsTold (setup : Opening) (seed run : ℕ) (t : Told) : Type 0 where
  pub number : t.run ≡ run
  pub machine : Ran
  pub made : IsRunOfSeed setup seed run machine
  pub told : IsToldOf machine t

abbrev pub AreTold : Opening → ℕ → ℕ → List Told → Type 0
AreTold setup seed from all = Each (IsTold setup seed) from all

abbrev pub is_racy : Told → Bool
is_racy t = is_some t.outcome.race

-- The text has a line of each of so many runs, and the status says whether one of them has a race.
pub record TellsEach (setup : Opening) (from runs seed : ℕ) (status : Status) (text : List ℕ) : Type 0 where
  pub all : List Told
  pub count : length all ≡ runs
  pub each : AreTold setup seed from all
  pub says : text ≡ flat_map told_line all
  pub found : status ≡ status_of (list_any is_racy all)

-- ---- while it goes on

-- this was taken in of the first runs, so many
pub record HasTaken (q : Target) (seed from made : ℕ) (h : Sums) : Type 0 where
  pub reports : List Reported
  pub count : length reports ≡ made
  pub each : AreReports q.setup q.asked seed from reports
  pub told : h ≡ hunted reports

-- the runs of a hunt were made, and this was taken in of them
pub record HasMade (q : Target) (seed from : ℕ) (asked : Option ℕ) (stopped : Bool) (h : Sums) : Type 0 where
  pub made : ℕ
  pub taken : HasTaken q seed from made h
  pub all : AreMade stopped asked taken.reports

-- so many runs were made and taken in, and those of a batch can be made after them
pub record IsNext (q : Target) (hunt : Hunt) (made : ℕ) (batch : Batch) (h : Sums) : Type 0 where
  pub some : 0 < length q.setup.entries
  pub numbered : hunt.from + (made + batch.runs) < 2 ^ 32
  pub room : made + batch.runs + 2 < 2 ^ 32
  pub taken : HasTaken q hunt.seed hunt.from made h

-- A call makes the runs of any next batch and takes their reports in: `pre` and `post` are what it requires and ensures.
pub record MakesBatches (pre : Bor Target → Bor Hunt → ℕ → Batch → MutBor Sums → Type 0)
    (post : Bor Target → Bor Hunt → ℕ → Batch → MutBor Sums → Result (Unit {0}) AllocError → MutBor Sums → Type 0) : Type 0 where
  pub can : (q : Bor Target) (hunt : Bor Hunt) (made : ℕ) (batch : Batch) (sums : MutBor Sums)
      → IsNext q.now hunt.now made batch sums.now → pre q hunt made batch sums
  pub makes : (q : Bor Target) (hunt : Bor Hunt) (made : ℕ) (batch : Batch) (sums after : MutBor Sums) (result : Result (Unit {0}) AllocError)
      → IsNext q.now hunt.now made batch sums.now → post q hunt made batch sums result after
      → OnOk result (HasTaken q.now hunt.now.seed hunt.now.from (made + batch.runs) after.now)

-- this was taken in of runs of the hunt that follow one another, none of them after the first `end`
pub record IsPart (q : Target) (seed from end : ℕ) (part : Part) : Type 0 where
  pub taken : HasTaken q seed (from + part.first) part.sums.runs part.sums
  pub within : part.first + part.sums.runs ≤ end

abbrev pub AreParts : Target → ℕ → ℕ → ℕ → List Part → Type 0
AreParts q seed from end parts = All (IsPart q seed from end) parts

-- each thread that had memory gave such parts
abbrev pub GaveParts : Target → ℕ → ℕ → ℕ → List (Result (Vec Part Global) AllocError) → Type 0
GaveParts q seed from end told = All (λ gave. IfOk gave (λ parts. AreParts q seed from end parts.items)) told

-- these are the lines of so many runs, and whether one has a race
pub record TellsRuns (setup : Opening) (seed from runs : ℕ) (text : List ℕ) (racy : Bool) : Type 0 where
  pub all : List Told
  pub count : length all ≡ runs
  pub each : AreTold setup seed from all
  pub says : text ≡ flat_map told_line all
  pub found : racy ≡ list_any is_racy all
