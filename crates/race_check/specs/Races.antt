-- Which steps of a run race: two accesses of a byte of which one writes it, and that nothing orders.
use Rattle.std.specs.Prelude.{◌≡◌, ℕ, ◌<◌, ◌≤◌, ◌⊎◌, List, map, IsTrue, Option, Some, None, slice_get}
use Rattle.cell_machine.specs.declared.effect.Place.{Place}
use Rattle.cell_machine.specs.declared.effect.Span.{Span}
use Rattle.cell_machine.specs.declared.effect.Effect.{Effect}
use Rattle.cell_machine.specs.Run.{Ran}
use Rattle.cell_machine.specs.Sound.{covers}
use Rattle.race_order.specs.Trace.{Trace}
use Rattle.race_order.specs.Rules.{Rule, Ordered}
use Rattle.race_order.specs.OrderedRuns.{OnTrace}
use Rattle.race_check.specs.declared.access.Access.{Access}
use Rattle.race_check.specs.declared.check.Verdict.{Verdict}
use Rattle.race_check.specs.declared.check.Verdict.TheVariants.{Accepted, Race as Racing}

-- the spans of a step
abbrev pub access_of : Effect → Access
access_of e = record { fetch = e.fetch; reads = e.reads; writes = e.writes }

-- those of each step of a trace
abbrev pub accesses_on : Trace → List Access
accesses_on trace = map (λ e. access_of e.effect) trace

-- a byte stands in both spans
pub record Meet (a b : Span) : Type 0 where
  pub place : Place
  pub at : ℕ
  pub in_first : IsTrue (covers a place at)
  pub in_second : IsTrue (covers b place at)

-- a writes a byte that b fetches, reads or writes
abbrev pub WritesInto : Access → Access → Type 0
WritesInto a b = Meet a.writes b.fetch ⊎ Meet a.writes b.reads ⊎ Meet a.writes b.writes

-- one of the two writes a byte that the other fetches, reads or writes
abbrev pub Conflict : Access → Access → Type 0
Conflict a b = WritesInto a b ⊎ WritesInto b a

-- the accesses at the places i and j conflict
pub record ConflictAt (accesses : List Access) (i j : ℕ) : Type 0 where
  pub first : Access
  pub second : Access
  pub first_at : slice_get accesses i ≡ Some first
  pub second_at : slice_get accesses j ≡ Some second
  pub conflict : Conflict first second

-- i is below j and not before it, and they conflict
pub record RaceBy (Before : ℕ → ℕ → Type 0) (accesses : List Access) (i j : ℕ) : Type 0 where
  pub below : i < j
  pub unordered : Before i j → ⊥
  pub conflict : ConflictAt accesses i j

-- the steps i and j of a trace race
abbrev pub Race : Trace → ℕ → ℕ → Type 0
Race trace = RaceBy (Ordered Rule trace) (accesses_on trace)

-- of the pairs in R the one with the least second place, and with that the least first
pub record IsLeast (R : ℕ → ℕ → Type 0) (i j : ℕ) : Type 0 where
  pub holds : R i j
  pub least_second : (k n : ℕ) → R k n → j ≤ n
  pub least_first : (k : ℕ) → R k j → i ≤ k

-- of the places that R has in front of j the first
pub record IsFirst (R : ℕ → ℕ → Type 0) (i j : ℕ) : Type 0 where
  pub holds : R i j
  pub first : (k : ℕ) → R k j → i ≤ k

-- and the latest
pub record IsLatest (R : ℕ → ℕ → Type 0) (i j : ℕ) : Type 0 where
  pub holds : R i j
  pub latest : (k : ℕ) → R k j → k ≤ i

-- this is the latest, None where there is none
abbrev pub TellsLatest : (ℕ → ℕ → Type 0) → ℕ → Option ℕ → Type 0
TellsLatest R j None = (i : ℕ) → R i j → ⊥
TellsLatest R j (Some i) = IsLatest R i j

-- accepted where no two steps race, else the least race
abbrev pub IsVerdictOn : Verdict → Trace → Type 0
IsVerdictOn Accepted trace = (i j : ℕ) → Race trace i j → ⊥
IsVerdictOn (Racing first second) trace = IsLeast (Race trace) first second

-- the verdict on a run is that on its trace
abbrev pub IsVerdict : Ran → Verdict → Type 0
IsVerdict m v = OnTrace m (IsVerdictOn v)
