-- What is kept of a run as it is made.
use Rattle.std.specs.Prelude.{ℕ, ◌<◌, List, length, Option, Some, None, All}
use Rattle.std.specs.List.{AllPairs}
use Rattle.cell_machine.specs.Run.{Ran}
use Rattle.lost_values.specs.Keeping.{Knows as KnowsLosses}
use Rattle.unwritten_reads.specs.Keeping.{Knows as KnowsUnwritten}
use Rattle.race_check.specs.Races.{IsLeast}
use Rattle.race_check.specs.Searches.{Keeps, run_of}
use Rattle.race_check.specs.Walks.{RaceIn}
use Rattle.cell_hunt.specs.declared.ending.Ended.{Ended}
use Rattle.cell_hunt.specs.declared.so_far.SoFar.{SoFar}
use Rattle.cell_hunt.specs.declared.racing.Racing.{Racing}
use Rattle.cell_hunt.specs.Endings.{EndsAt, HasEnding, IsEnding}
use Rattle.cell_hunt.specs.Origins.{Knows}
use Rattle.cell_hunt.specs.Racings.{HasSecond, IsRacing}
use Rattle.cell_hunt.specs.Sites.{AreSites}
use Rattle.cell_hunt.specs.Touched.{HasTouched}

abbrev pub made_by : SoFar → Ran
made_by so_far = run_of so_far.search

-- no step among the first n races with an earlier one, or this is the least race
abbrev pub IsLeastTo : ℕ → Ran → Option Racing → Type 0
IsLeastTo n m None = (i j : ℕ) → j < n → RaceIn m i j → ⊥
IsLeastTo n m (Some r) = IsLeast (RaceIn m) r.first r.second × AreSites m r.first r.second r.sites

-- an entry for each of the first n steps that races with an earlier one, in their order
pub record AreRacesTo (n : ℕ) (m : Ran) (races : List Racing) : Type 0 where
  pub each : All (IsRacing m) races
  pub below : All (λ r. r.second < n) races
  pub all : (i j : ℕ) → j < n → RaceIn m i j → HasSecond races j
  pub ascend : AllPairs (λ a b. a.second < b.second) races

-- an entry for each of the first n steps with which a processor ends, in their order
pub record AreEndingsTo (n : ℕ) (m : Ran) (endings : List Ended) : Type 0 where
  pub each : All (IsEnding m) endings
  pub below : All (λ e. e.step < n) endings
  pub all : (place : ℕ) → place < n → EndsAt m place → HasEnding endings place
  pub ascend : AllPairs (λ a b. a.step < b.step) endings

-- the search can go on, and what is kept has where the steps so far come from, what they touched, with which of them processors end, which values they lose, which of them read
-- unwritten bytes, and the races of the first n
pub record IsSearchedTo (n : ℕ) (so_far : SoFar) : Type 0 where
  pub keeps : Keeps so_far.search
  pub knows : Knows (made_by so_far) so_far.origins
  pub least : IsLeastTo n (made_by so_far) so_far.least
  pub all : AreRacesTo n (made_by so_far) so_far.races.items
  pub touched : HasTouched (made_by so_far) so_far.touched
  pub endings : AreEndingsTo (length (made_by so_far).steps) (made_by so_far) so_far.endings.items
  pub losses : KnowsLosses (made_by so_far) so_far.losses
  pub unwritten : KnowsUnwritten (made_by so_far) so_far.unwritten_reads
