-- The races of a run, and where their steps come from.
use Rattle.std.specs.Prelude.{◌≡◌, ℕ, ◌<◌, List, Option, Some, None, All, Contains}
use Rattle.std.specs.List.{AllPairs}
use Rattle.cell_machine.specs.Run.{Ran}
use Rattle.race_check.specs.declared.check.Verdict.TheVariants.{Accepted, Race}
use Rattle.race_check.specs.Races.{IsLatest, IsVerdict}
use Rattle.race_check.specs.Walks.{RaceIn}
use Rattle.cell_hunt.specs.declared.racing.Racing.{Racing}
use Rattle.cell_hunt.specs.Ends.{IsOver}
use Rattle.cell_hunt.specs.Sites.{AreSites}

-- the first step is the latest one that races with the second, and these are their sites
pub record IsRacing (m : Ran) (r : Racing) : Type 0 where
  pub latest : IsLatest (RaceIn m) r.first r.second
  pub sites : AreSites m r.first r.second r.sites

-- the entry is of this second step
pub record HasSecond (races : List Racing) (j : ℕ) : Type 0 where
  pub racing : Racing
  pub inside : Contains races racing
  pub is : racing.second ≡ j

-- an entry for each step that races with an earlier one, in the order of these steps
pub record AreAllRaces (m : Ran) (races : List Racing) : Type 0 where
  pub each : All (IsRacing m) races
  pub all : (i j : ℕ) → RaceIn m i j → HasSecond races j
  pub ascend : AllPairs (λ a b. a.second < b.second) races

-- this is the least race, None where there is none
abbrev pub IsLeastRace : Ran → Option Racing → Type 0
IsLeastRace m None = IsVerdict m Accepted
IsLeastRace m (Some r) = IsVerdict m (Race r.first r.second) × AreSites m r.first r.second r.sites

-- the run is over, and these are its least race and all of them
pub record IsSearched (m : Ran) (least : Option Racing) (races : List Racing) : Type 0 where
  pub over : IsOver m
  pub is_least : IsLeastRace m least
  pub are_all : AreAllRaces m races
