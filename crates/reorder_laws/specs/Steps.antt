-- One more step of another order: what has to be shown of it, for a state that has the recorded bytes and for any that is reached.
use Rattle.std.specs.Prelude.{◌≡◌, ℕ, List, [], ◌∷◌, ◌++◌, map, Some}
use Rattle.std.specs.List.{range_with_len}
use Rattle.cell_machine.specs.State.{State}
use Rattle.cell_machine.specs.Next.{next}
use Rattle.cell_machine.specs.Run.{replay}
use Rattle.cell_machine.specs.declared.effect.Effect.{Effect}
use Rattle.cell_machine.specs.Effects.{effect_of}
use Rattle.cell_machine.specs.Written.{written_by}
use Rattle.cell_machine.specs.ByteRuns.{Bytes, had_by, after}
use Rattle.cell_machine.specs.Sound.{byte_of}
use Rattle.reorder_laws.specs.Cuts.{IsFront}
use Rattle.reorder_laws.specs.Recorded.{Recorded, spe_in, act_at}
use Rattle.reorder_laws.specs.Described.{Describes}

-- the same fetched, read and written spans
pub record HasSameSpans (e f : Effect) : Type 0 where
  pub fetch : e.fetch ≡ f.fetch
  pub reads : e.reads ≡ f.reads
  pub writes : e.writes ≡ f.writes

pub record HasSameBytes (M N : State) : Type 0 where
  pub memory : M.memory.bytes ≡ N.memory.bytes
  pub stores : (p : ℕ) → (spe_in M p).store ≡ (spe_in N p).store

-- in M the recorded step at j is allowed, touches the same spans, writes bytes of the same origin, and what it leaves is described with it
pub record MakesStep (r : Recorded) (D : List ℕ) (j : ℕ) (M : State) : Type 0 where
  pub after : State
  pub next_is : next M (r.step j) ≡ Some after
  pub effect : Effect
  pub effect_is : effect_of M (r.step j) ≡ Some effect
  pub spans : HasSameSpans effect (r.effect j)
  pub written : written_by M (r.step j) ≡ written_by (r.state j) (r.step j)
  pub describes : Describes r (D ++ j ∷ []) after

-- so it is in each state that is described and has the recorded bytes. The recorded state itself is described by the places below j
abbrev pub StepsAlike : (ℕ → ℕ → Type 0) → Recorded → Type 0
StepsAlike Before r = (D : List ℕ) (j : ℕ) (M : State) → IsFront Before r.size D j → Describes r D M → Describes r (range_with_len 0 j) (r.state j)
    → HasSameBytes M (r.state j) → MakesStep r D j M

-- ---- with bytes

-- the bytes after the actions at these places
abbrev pub bytes_after : Recorded → Bytes → List ℕ → Bytes
bytes_after r bytes [] = bytes
bytes_after r bytes (k ∷ ks) = bytes_after r (after bytes (act_at r k)) ks

-- M is reached by the steps at these places
pub record Reaches (r : Recorded) (D : List ℕ) (M : State) : Type 0 where
  pub run : replay (r.state 0) (map r.step D) ≡ Some M
  pub describes : Describes r D M
  pub bytes : byte_of M ≡ bytes_after r (byte_of (r.state 0)) D

-- behind these places the step at j has what it has in the recorded order
abbrev pub HasRecorded : Recorded → List ℕ → ℕ → Type 0
HasRecorded r D j = had_by (bytes_after r (byte_of (r.state 0)) D) (act_at r j) ≡ had_by (byte_of (r.state j)) (act_at r j)
