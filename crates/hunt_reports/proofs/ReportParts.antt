-- The report of a run, by its parts.
use Rattle.std.proofs.Common.{◌≡◌, ℕ, Bool, List, ◌++◌, map, length, Option, Some, ◌∙◌}
use Rattle.cell_machine.specs.declared.status.End.{End}
use Rattle.cell_machine.specs.State.{State}
use Rattle.cell_machine.specs.Run.{Ran, state_of, IsEnd, EndsAs}
use Rattle.cell_report.specs.States.{result_of}
use Rattle.cell_hunt.specs.declared.racing.Racing.{Racing}
use Rattle.cell_hunt.specs.declared.ending.Ended.{Ended}
use Rattle.cell_hunt.specs.Executed.{executed_in}
use Rattle.cell_hunt.specs.Kinds.{kind_of}
use Rattle.cell_hunt.specs.Racings.{AreAllRaces}
use Rattle.cell_hunt.specs.Endings.{AreAllEndings}
use Rattle.hunt_tally.specs.Tallies.{Tells}
use Rattle.hunt_tally.specs.Reports.{Reported}
use Rattle.hunt_reports.specs.declared.asked.Asked.{Asked}
use Rattle.hunt_reports.specs.declared.ended.AtEnd.{AtEnd}
use Rattle.hunt_reports.specs.declared.spent.Spent.{Spent}
use Rattle.hunt_reports.specs.Endings.{ended_in, ending_text}
use Rattle.hunt_reports.specs.Lists.{bytes_in}
use Rattle.hunt_reports.specs.Coverage.{number_of}
use Rattle.hunt_reports.specs.Races.{races_told, race_findings, leaves_out}
use Rattle.hunt_reports.specs.Findings.{others_told}
use Rattle.hunt_reports.specs.Reports.{flaws_by, report_by, report_in, missed_of, findings_in, IsReport}
use Rattle.hunt_reports.specs.Spent.{IsSpentBy, has_livelock}
use Rattle.hunt_reports.specs.Waits.{running_from}
use Rattle.hunt_reports.specs.Warnings.{AreWarnings}
use Rattle.hunt_reports.proofs.Ends.{state_there}

-- what was made of a run that left state M
pub record AreParts (m : Ran) (asked : Asked) (end : End) (spent : Option Spent) (races : List Racing) (endings : List Ended) (M : State)
    (spes : List AtEnd) (left : List ℕ) (told findings : List Tells) (leaves : Bool) (missed : List (List ℕ)) : Type 0 where
  pub spes_are : spes ≡ map ended_in M.spes
  pub left_is : left ≡ result_of M m.setup.shows
  pub missed_are : missed ≡ missed_of M m.setup.shows end asked
  pub told_are : told ≡ races_told asked.places (bytes_in asked.passed.items) races
  pub findings_are : findings ≡ race_findings asked.places (bytes_in asked.passed.items) races ++ others_told asked.places M.spes endings spes end spent missed
  pub leaves_is : leaves ≡ leaves_out asked.places (bytes_in asked.passed.items) races

module _ (m : Ran) (asked : Asked) (end : End) (spent : Option Spent) (races : List Racing) (endings : List Ended) (warnings : List Tells)
    (spes : List AtEnd) (left : List ℕ) (told findings : List Tells) (leaves : Bool) (missed : List (List ℕ)) (kind steps : ℕ) (executed : List ℕ) where
  abbrev made_by : Reported
  made_by = report_by (flaws_by spes end (has_livelock spent) told missed) (ending_text end spes) left told findings warnings leaves missed kind steps executed

  by_parts : (M : State) → AreParts m asked end spent races endings M spes left told findings leaves missed → made_by ≡ report_in M m.setup.shows end spent races endings warnings kind steps executed asked
  by_parts M are =
      let all : findings ≡ findings_in M end spent (missed_of M m.setup.shows end asked) races endings asked
      = are.findings_are ∙ (λ i. race_findings asked.places (bytes_in asked.passed.items) races ++ others_told asked.places M.spes endings (are.spes_are i) end spent (are.missed_are i)) in
      λ i. report_by (flaws_by (are.spes_are i) end (has_livelock spent) (are.told_are i) (are.missed_are i)) (ending_text end (are.spes_are i)) (are.left_is i) (are.told_are i) (all i) warnings (are.leaves_is i) (are.missed_are i) kind steps executed

  pub reported : (r : Reported) → EndsAs m (Some end) → AreAllRaces m races → AreAllEndings m endings
      → ((M : State) → state_of m ≡ Some M → IsSpentBy m (running_from 0 (map ended_in M.spes)) end spent)
      → AreWarnings m asked.places asked.warns warnings
      → ((M : State) → state_of m ≡ Some M → IsEnd M m.setup.budget (Some end) → AreParts m asked end spent races endings M spes left told findings leaves missed)
      → kind ≡ kind_of m → steps ≡ length m.steps → executed ≡ map number_of (executed_in m) → r ≡ made_by → IsReport m asked r
  reported r ends all all_endings is_spent warned are kind_is steps_is executed_is made =
      let there = state_there (state_of m) (λ M. IsEnd M m.setup.budget (Some end)) ends in
      record {
        state = there.0;
        left = there.1;
        end = end;
        ended = there.2;
        spent = spent;
        spent_by = is_spent there.0 there.1;
        races = races;
        all = all;
        endings = endings;
        all_endings = all_endings;
        warnings = warnings;
        all_warnings = warned;
        told = made ∙ by_parts there.0 (are there.0 there.1 there.2) ∙ (λ i. report_in there.0 m.setup.shows end spent races endings warnings (kind_is i) (steps_is i) (executed_is i) asked);
      }
