-- What lists of crowds have, and what becomes of it when a new entry comes.
use Rattle.std.specs.Prelude.{◌≡◌, ℕ, ◌⊎◌, List, Option, Some, None, IfSome, Contains}
use Rattle.cell_machine.specs.declared.effect.Place.{Place}
use Rattle.race_check.specs.declared.entry.Entry.{Entry}
use Rattle.race_check.specs.declared.crowd.Crowd.{Crowd}
use Rattle.race_check.specs.Entries.{Holds}
pub use Rattle.race_check.specs.Safe.{IsSafe, IsUnsafe, UpTo, IsLater, IsUnsafeOne, StepsTell, IsThinned}

-- it is the step of the crowd's entry, or one of the others
abbrev pub HasStep : Crowd → ℕ → Type 0
HasStep c s = (s ≡ c.entry.step) ⊎ Contains c.others.list.items s

-- a crowd of the list has the step and the byte
pub record Has (crowds : List Crowd) (s : ℕ) (p : Place) (x : ℕ) : Type 0 where
  pub crowd : Crowd
  pub inside : Contains crowds crowd
  pub step : HasStep crowd s
  pub there : Holds crowd.entry p x

-- the last step is in the second crowd, of the first one only steps are lost that are safe, and nothing else is added
pub record IsTaken (Before : ℕ → ℕ → Type 0) (last : ℕ) (old new : Crowd) : Type 0 where
  pub left : (s : ℕ) → HasStep old s → HasStep new s ⊎ IsSafe Before s last
  pub own : HasStep new last
  pub rest : (s : ℕ) → HasStep new s → HasStep old s ⊎ (s ≡ last)

-- ---- a list of crowds, and a new entry of the last step

-- the step is one of the crowd, has a byte of the new entry, and is neither its step nor before it
pub record CrowdClashes (Before : ℕ → ℕ → Type 0) (new : Entry) (c : Crowd) (step : ℕ) : Type 0 where
  pub place : Place
  pub at : ℕ
  pub has : HasStep c step
  pub there : Holds c.entry place at
  pub in_new : Holds new place at
  pub unsafe : IsUnsafe Before step new.step

-- this is the latest such step, None where there is none
pub record CrowdTells (Before : ℕ → ℕ → Type 0) (new : Entry) (c : Crowd) (latest : Option ℕ) : Type 0 where
  pub clash : IfSome latest (CrowdClashes Before new c)
  pub rest : (s : ℕ) (p : Place) (x : ℕ) → HasStep c s → Holds c.entry p x → Holds new p x → IsSafe Before s new.step ⊎ UpTo latest s

-- the step is one of the list, has a byte of the new entry, and is neither its step nor before it
pub record Clashes (Before : ℕ → ℕ → Type 0) (new : Entry) (crowds : List Crowd) (step : ℕ) : Type 0 where
  pub place : Place
  pub at : ℕ
  pub has : Has crowds step place at
  pub in_new : Holds new place at
  pub unsafe : IsUnsafe Before step new.step

-- this is the latest such step, None where there is none
pub record Tells (Before : ℕ → ℕ → Type 0) (new : Entry) (crowds : List Crowd) (latest : Option ℕ) : Type 0 where
  pub clash : IfSome latest (Clashes Before new crowds)
  pub rest : (s : ℕ) (p : Place) (x : ℕ) → Has crowds s p x → Holds new p x → IsSafe Before s new.step ⊎ UpTo latest s

-- only bytes of the new entry are lost, and nothing is added
pub record IsTrimmed (new : Entry) (before after : List Crowd) : Type 0 where
  pub left : (s : ℕ) (p : Place) (x : ℕ) → Has before s p x → Has after s p x ⊎ Holds new p x
  pub rest : (s : ℕ) (p : Place) (x : ℕ) → Has after s p x → Has before s p x

-- the new entry is there, only its bytes of steps before it are lost, and nothing else is added
pub record IsJoined (Before : ℕ → ℕ → Type 0) (new : Entry) (before after : List Crowd) : Type 0 where
  pub left : (s : ℕ) (p : Place) (x : ℕ) → Has before s p x → Has after s p x ⊎ (Holds new p x × IsSafe Before s new.step)
  pub own : (p : Place) (x : ℕ) → Holds new p x → Has after new.step p x
  pub rest : (s : ℕ) (p : Place) (x : ℕ) → Has after s p x → Has before s p x ⊎ (Holds new p x × (s ≡ new.step))

-- the entry's bytes are there with its step and the others, and nothing else is lost or added
pub record IsPut (entry : Entry) (others : List ℕ) (before after : List Crowd) : Type 0 where
  pub left : (s : ℕ) (p : Place) (x : ℕ) → Has before s p x → Has after s p x
  pub own : (s : ℕ) (p : Place) (x : ℕ) → (s ≡ entry.step) ⊎ Contains others s → Holds entry p x → Has after s p x
  pub rest : (s : ℕ) (p : Place) (x : ℕ) → Has after s p x → Has before s p x ⊎ (Holds entry p x × ((s ≡ entry.step) ⊎ Contains others s))

-- so are those of a cut, where there are any
abbrev pub IsCutPut : Option Entry → List ℕ → List Crowd → List Crowd → Type 0
IsCutPut None others before after = after ≡ before
IsCutPut (Some entry) others before after = IsPut entry others before after
