-- What the processors did in a run that spent its budget, and whether the run is a livelock.
use Rattle.std.specs.Prelude.{◌≡◌, ℕ, ◌-◌, ◌*◌, ◌==◌, ◌||◌, not, nat_le, Bool, false, List, Option, Some, None, IsSomeAnd, option_map}
use Rattle.std.specs.List.{AllZip}
use Rattle.std.specs.Option.{option_map_or}
use Rattle.cell_machine.specs.declared.status.End.{End}
use Rattle.cell_machine.specs.declared.status.End.TheVariants.{AllStopped, Stuck, Budget}
use Rattle.cell_machine.specs.Run.{Ran}
use Rattle.cell_hunt.specs.Sites.{IsSite}
use Rattle.run_progress.specs.declared.progress.AddressRange.{AddressRange}
use Rattle.run_progress.specs.declared.progress.Poll.{Poll}
use Rattle.run_progress.specs.declared.progress.SpeProgress.{SpeProgress}
use Rattle.run_progress.specs.Made.{made_of}
use Rattle.run_progress.specs.Progress.{last_change, spe_progress}
use Rattle.hunt_reports.specs.declared.locations.Location.{Location}
use Rattle.hunt_reports.specs.declared.spent.Loop.{Loop}
use Rattle.hunt_reports.specs.declared.spent.Polled.{Polled}
use Rattle.hunt_reports.specs.declared.spent.Spent.{Spent}
use Rattle.hunt_reports.specs.Lists.{BothOrNone}

-- ---- what a processor did after the last change

-- the bytes that its MFC polls, and the site of the last step that wrote one of them
pub record IsPoll (m : Ran) (poll : Poll) (polled : Polled) : Type 0 where
  pub at : polled.at ≡ poll.at
  pub len : polled.len ≡ poll.len
  pub writer : BothOrNone (IsSite m) poll.writer polled.writer

-- the first instruction of its loop; if it executed none, the one at its PC
abbrev pub first_in : Location → Option AddressRange → Location
first_in here (Some range) = record { spe = here.spe; at = range.least }
first_in here None = here

-- the address of its last one
abbrev pub last_in : Option AddressRange → Option ℕ
last_in executed = option_map (λ (range : AddressRange). range.greatest) executed

-- this is what the processor did that is here
pub record DidLoop (progress : SpeProgress) (m : Ran) (here : Location) (o : Loop) : Type 0 where
  pub first : o.first ≡ first_in here progress.executed
  pub last : o.last ≡ last_in progress.executed
  pub polled : BothOrNone (IsPoll m) progress.polled o.polled

abbrev pub IsLoop : Ran → Location → Loop → Type 0
IsLoop m here o = DidLoop (spe_progress (made_of m) here.spe) m here o

-- ---- all of them

-- this is the last change of the run, and what these processors did after it
pub record IsSpent (m : Ran) (running : List Location) (s : Spent) : Type 0 where
  pub change : s.last_change ≡ last_change (made_of m)
  pub budget : s.budget ≡ m.setup.budget
  pub loops : AllZip (IsLoop m) running s.loops.items

-- the same if the run ends with its budget
abbrev pub IsSpentBy : Ran → List Location → End → Option Spent → Type 0
IsSpentBy m running Budget spent = IsSomeAnd spent (IsSpent m running)
IsSpentBy m running AllStopped spent = spent ≡ None
IsSpentBy m running Stuck spent = spent ≡ None

-- ---- livelocks

-- a fair strategy chooses the step at this place: that of the last quarter of the budget
abbrev pub is_fair : ℕ → ℕ → Bool
is_fair budget place = nat_le (3 * budget) (4 * place)

-- no step that is chosen fairly is a change: not even the last change is one of these
abbrev pub is_livelock : Spent → Bool
is_livelock s = (s.last_change == 0) || not (is_fair s.budget (s.last_change - 1))

abbrev pub has_livelock : Option Spent → Bool
has_livelock spent = option_map_or is_livelock spent false
