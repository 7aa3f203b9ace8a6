-- The report of one run.
use Rattle.std.specs.Prelude.{◌≡◌, ℕ, Bool, not, ◌&&◌, ◌==◌, List, ◌++◌, map, length, Option, Some}
use Rattle.std.specs.List.{list_any}
use Rattle.cell_machine.specs.declared.status.End.{End}
use Rattle.cell_machine.specs.declared.setup.Show.{Show}
use Rattle.cell_machine.specs.State.{State}
use Rattle.cell_machine.specs.Run.{Ran, state_of, IsEnd}
use Rattle.cell_report.specs.States.{states_of, result_of}
use Rattle.cell_hunt.specs.declared.racing.Racing.{Racing}
use Rattle.cell_hunt.specs.Executed.{executed_in}
use Rattle.cell_hunt.specs.Kinds.{kind_of}
use Rattle.cell_hunt.specs.Racings.{AreAllRaces}
use Rattle.cell_hunt.specs.declared.ending.Ended.{Ended}
use Rattle.cell_hunt.specs.Endings.{AreAllEndings}
use Rattle.hunt_tally.specs.declared.flaws.Flaws.{Flaws}
use Rattle.hunt_tally.specs.Tallies.{Tells}
use Rattle.hunt_tally.specs.Reports.{Reported}
use Rattle.hunt_reports.specs.declared.asked.Asked.{Asked}
use Rattle.hunt_reports.specs.declared.ended.AtEnd.{AtEnd}
use Rattle.hunt_reports.specs.declared.spent.Spent.{Spent}
use Rattle.hunt_reports.specs.Endings.{ended_in, is_fault, is_halted, is_stuck, is_budget, ending_text}
use Rattle.hunt_reports.specs.Missing.{missed_in}
use Rattle.hunt_reports.specs.Races.{races_told, race_findings, leaves_out}
use Rattle.hunt_reports.specs.Findings.{others_told}
use Rattle.hunt_reports.specs.Lists.{bytes_in}
use Rattle.hunt_reports.specs.Coverage.{number_of}
use Rattle.hunt_reports.specs.Spent.{IsSpentBy, has_livelock}
use Rattle.hunt_reports.specs.Waits.{running_from}
use Rattle.hunt_reports.specs.Warnings.{AreWarnings}

abbrev pub is_some : {X : Type 0} → List X → Bool
is_some xs = not (length xs == 0)

-- by how the processors ended, the end word, whether it is a livelock, its races and the lines that it misses
abbrev pub flaws_by : List AtEnd → End → Bool → List Tells → List (List ℕ) → Flaws
flaws_by spes end livelock races missed = record {
  race = is_some races;
  stuck = is_stuck end;
  livelock = livelock;
  budget = is_budget end && not livelock;
  fault = list_any (λ (e : AtEnd). is_fault e.status) spes;
  halt = list_any (λ (e : AtEnd). is_halted e.status) spes;
  missed = is_some missed;
}

-- by these flaws, how it ended, what is left, its races, findings and warnings, whether a race was left out, the lines that it misses, its kind, how many steps it has and the numbers of the instructions that it executed
abbrev pub report_by : Flaws → List ℕ → List ℕ → List Tells → List Tells → List Tells → Bool → List (List ℕ) → ℕ → ℕ → List ℕ → Reported
report_by flaws ending left races findings warnings leaves missed kind steps executed = record {
  flaws = flaws;
  ending = ending;
  result = left;
  races = races;
  missed = missed;
  findings = findings;
  warnings = warnings;
  leaves_out = leaves;
  kind = kind;
  steps = steps;
  executed = executed;
}

-- the findings of a run that ends so in state M, misses these lines, has these races and these steps that ended a processor
abbrev pub findings_in : State → End → Option Spent → List (List ℕ) → List Racing → List Ended → Asked → List Tells
findings_in M end spent missed races endings asked =
    race_findings asked.places (bytes_in asked.passed.items) races ++ others_told asked.places M.spes endings (map ended_in M.spes) end spent missed

-- the expected lines that the states of a run don't have that ends so in state M and shows these ranges
abbrev pub missed_of : State → List Show → End → Asked → List (List ℕ)
missed_of M shows end asked = missed_in (states_of M shows (Some end)) (bytes_in asked.expected.items)

-- the report of a run that ends so in state M, shows these ranges, has these races, these steps that ended a processor and these warnings, is of this kind, has so many steps, and executed these instructions
abbrev pub report_in : State → List Show → End → Option Spent → List Racing → List Ended → List Tells → ℕ → ℕ → List ℕ → Asked → Reported
report_in M shows end spent races endings warnings kind steps executed asked =
    report_by
    (flaws_by (map ended_in M.spes) end (has_livelock spent) (races_told asked.places (bytes_in asked.passed.items) races) (missed_of M shows end asked))
    (ending_text end (map ended_in M.spes)) (result_of M shows) (races_told asked.places (bytes_in asked.passed.items) races)
    (findings_in M end spent (missed_of M shows end asked) races endings asked) warnings (leaves_out asked.places (bytes_in asked.passed.items) races)
    (missed_of M shows end asked) kind steps executed

-- this is the report of the run
pub record IsReport (run : Ran) (asked : Asked) (r : Reported) : Type 0 where
  pub state : State
  pub left : state_of run ≡ Some state
  pub end : End
  pub ended : IsEnd state run.setup.budget (Some end)
  pub spent : Option Spent
  pub spent_by : IsSpentBy run (running_from 0 (map ended_in state.spes)) end spent
  pub races : List Racing
  pub all : AreAllRaces run races
  pub endings : List Ended
  pub all_endings : AreAllEndings run endings
  pub warnings : List Tells
  pub all_warnings : AreWarnings run asked.places asked.warns warnings
  pub told : r ≡ report_in state run.setup.shows end spent races endings warnings (kind_of run) (length run.steps) (map number_of (executed_in run)) asked
