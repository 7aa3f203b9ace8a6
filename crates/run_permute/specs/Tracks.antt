-- The steps of each actor so far, and which of them are ordered.
use Rattle.std.specs.Prelude.{◌≡◌, ℕ, ◌<◌, ◌≤◌, ◌⊎◌, ◌-◌, ◌++◌, ◌∷◌, [], List, length, Some, None, Option, slice_get, take}
use Rattle.cell_machine.specs.Run.{Ran}
use Rattle.reorder_laws.specs.OrderedLaws.{IsOrdered}
use Rattle.run_permute.specs.SettledLists.{IsIn, Each, AreChanged}
use Rattle.run_permute.specs.Lists.{HasAt, One, IsOneChanged}
use Rattle.run_permute.specs.Needs.{IsCovered}
use Rattle.run_permute.specs.declared.block.Block.{Block}
use Rattle.run_permute.specs.declared.past.Past.{Past}
use Rattle.run_permute.specs.declared.strand.Strand.{Strand}
use Rattle.run_permute.specs.declared.track.Track.{Track}

-- each step is below place j and ordered before those behind it
pub record IsChain (m : Ran) (j : ℕ) (chain : List ℕ) : Type 0 where
  pub below : (x a : ℕ) → slice_get chain x ≡ Some a → a < j
  pub ordered : (x y a b : ℕ) → x < y → slice_get chain x ≡ Some a → slice_get chain y ≡ Some b → IsOrdered m a b

-- the steps of the chain below its end are ordered before step j, and no others
pub record IsEnd (m : Ran) (j : ℕ) (chain : List ℕ) (end : ℕ) : Type 0 where
  pub within : end ≤ length chain
  pub before : (x a : ℕ) → x < end → slice_get chain x ≡ Some a → IsOrdered m a j
  pub after : (x a : ℕ) → end ≤ x → slice_get chain x ≡ Some a → IsOrdered m a j → ⊥

-- each of the steps is ordered before the one at this index of the chain
pub record IsUntil (m : Ran) (chain steps : List ℕ) (index : ℕ) : Type 0 where
  pub next : ℕ
  pub at : slice_get chain index ≡ Some next
  pub ordered : (i : ℕ) → IsIn i steps → IsOrdered m i next

abbrev pub MayBeUntil : Ran → List ℕ → List ℕ → Option ℕ → Type 0
MayBeUntil m chain steps None = Unit {0}
MayBeUntil m chain steps (Some index) = IsUntil m chain steps index

-- the steps of the strand
abbrev pub places : Strand → List ℕ
places s = s.first ∷ s.rest.items

-- the chain's steps below `from` are ordered before the strand's, and these before the one at `until`
pub record IsStrand (m : Ran) (j : ℕ) (chain : List ℕ) (s : Strand) : Type 0 where
  pub steps : IsChain m j (places s)
  pub high : s.from ≤ length chain
  pub above : (x a : ℕ) → x < s.from → slice_get chain x ≡ Some a → IsOrdered m a s.first
  pub low : MayBeUntil m chain (places s) s.until

-- no `until` is missing or above the bound, where there is one
abbrev pub IsNotAbove : Option ℕ → Option ℕ → Type 0
IsNotAbove None until = Unit {0}
IsNotAbove (Some high) None = ⊥
IsNotAbove (Some high) (Some until) = until ≤ high

pub record IsWithinBounds (lowest : ℕ) (highest : Option ℕ) (s : Strand) : Type 0 where
  pub low : lowest ≤ s.from
  pub high : IsNotAbove highest s.until

abbrev pub IsBounded : Block → Type 0
IsBounded b = Each (IsWithinBounds b.low b.high) b.strands.items

-- the strands of the block have steps that are below place j, each ordered before the next
abbrev pub AreChains : Ran → ℕ → Block → Type 0
AreChains m j b = Each (λ s. IsChain m j (places s)) b.strands.items

pub record IsBlock (m : Ran) (j : ℕ) (chain : List ℕ) (b : Block) : Type 0 where
  pub bounded : IsBounded b
  pub strands : Each (IsStrand m j chain) b.strands.items

-- the block has a `high`, and the bounds are within these
pub record IsSpanned (p : Past) (b : Block) : Type 0 where
  pub low : p.low ≤ b.low
  pub high : IsNotAbove (Some p.high) b.high

-- so many of the first blocks are so, but not the last one
pub record IsPast (p : Past) (bs : List Block) : Type 0 where
  pub within : p.blocks ≤ length bs - 1
  pub each : Each (IsSpanned p) (take p.blocks bs)

pub record IsTrack (m : Ran) (j : ℕ) (t : Track) : Type 0 where
  pub chain : IsChain m j t.chain.items
  pub blocks : Each (IsBlock m j t.chain.items) t.blocks.items
  pub past : IsPast t.past t.blocks.items

-- step i is one of the block's
abbrev pub IsOnBlock : ℕ → Block → Type 0
IsOnBlock i b = One (λ s. IsIn i (places s)) b.strands.items

-- step i is one of its steps
abbrev pub IsOn : Track → ℕ → Type 0
IsOn t i = IsIn i t.chain.items ⊎ One (IsOnBlock i) t.blocks.items

-- these cover each step of the track that is ordered before step j
abbrev pub CoversTrack : Ran → ℕ → Track → List ℕ → Type 0
CoversTrack m j t needs = (i : ℕ) → IsOn t i → IsOrdered m i j → IsCovered (IsOrdered m) needs i

-- a strand with these bounds may be ordered before a step behind so many of the chain without being so before one of these
abbrev pub IsNotBelow : ℕ → Option ℕ → Type 0
IsNotBelow end None = Unit {0}
IsNotBelow end (Some until) = end ≤ until

pub record IsBeside (lowest : ℕ) (highest : Option ℕ) (end : ℕ) : Type 0 where
  pub from : lowest ≤ end
  pub until : IsNotBelow end highest

-- each of the steps that is ordered before step j is among the needs, or ordered before one of them
abbrev pub AreCovered : Ran → ℕ → List ℕ → List ℕ → Type 0
AreCovered m j needs steps = (i : ℕ) → IsIn i steps → IsOrdered m i j → IsCovered (IsOrdered m) needs i

-- the strand's steps are so where it is beside the end
abbrev pub IsFound : Ran → ℕ → ℕ → List ℕ → Strand → Type 0
IsFound m j end needs s = IsBeside s.from s.until end → AreCovered m j needs (places s)

abbrev pub IsBlockFound : Ran → ℕ → ℕ → List ℕ → Block → Type 0
IsBlockFound m j end needs b = Each (IsFound m j end needs) b.strands.items

-- the same strand, which may be known to be ordered before step j, that comes to this index of the chain
pub record IsClosed (m : Ran) (j index : ℕ) (s n : Strand) : Type 0 where
  pub rest : n ≡ record s { until = n.until }
  pub until : (n.until ≡ s.until) ⊎ ((n.until ≡ Some index) × ((i : ℕ) → IsIn i (places s) → IsOrdered m i j))

-- each of the block's strands is so, and within the new bounds; with a `high` the block stays as it is
pub record IsBlockClosed (m : Ran) (j index : ℕ) (b n : Block) : Type 0 where
  pub strands : AreChanged (IsClosed m j index) (length b.strands.items) b.strands.items n.strands.items
  pub bounded : IsBounded n
  pub kept : (b.high ≡ None) ⊎ (n ≡ b)

-- no later step of the chain is known, and all of the strand's steps are ordered before step j
pub record IsOpen (m : Ran) (j : ℕ) (s : Strand) : Type 0 where
  pub until : s.until ≡ None
  pub end : IsEnd m j (places s) (length (places s))

-- the same strand with step j behind its steps
pub record IsLonger (m : Ran) (j : ℕ) (s n : Strand) : Type 0 where
  pub open_before : IsOpen m j s
  pub steps : n.rest.items ≡ s.rest.items ++ j ∷ []
  pub rest : n ≡ record s { rest = n.rest }

-- the strand at the index is so
abbrev pub IsOpenAt : Ran → ℕ → ℕ → Block → Type 0
IsOpenAt m j index b = HasAt (IsOpen m j) b.strands.items index

-- the same block with one strand that has step j, too
pub record IsBlockLonger (m : Ran) (j : ℕ) (b n : Block) : Type 0 where
  pub strands : IsOneChanged (IsLonger m j) b.strands.items n.strands.items
  pub rest : n ≡ record b { strands = n.strands }

-- the strand is on one of the blocks now, beside those that were, and on none that is past
pub record IsPut (s : Strand) (bs ns : List Block) : Type 0 where
  pub blocks : (m : Ran) (j : ℕ) (chain : List ℕ) → IsStrand m j chain s → Each (IsBlock m j chain) bs → Each (IsBlock m j chain) ns
  pub kept : (i : ℕ) → One (IsOnBlock i) bs → One (IsOnBlock i) ns
  pub added : (i : ℕ) → IsIn i (places s) → One (IsOnBlock i) ns
  pub past : (p : Past) → IsPast p bs → IsPast p ns

-- the tracks have the steps below place j
pub record AreTracks (m : Ran) (j : ℕ) (tracks : List Track) : Type 0 where
  pub each : Each (IsTrack m j) tracks
  pub all : (i : ℕ) → i < j → One (λ t. IsOn t i) tracks

-- it is the end of the chain of the track at the index
abbrev pub IsEndAt : Ran → ℕ → List Track → ℕ → ℕ → Type 0
IsEndAt m j tracks own end = HasAt (λ t. IsEnd m j t.chain.items end) tracks own
