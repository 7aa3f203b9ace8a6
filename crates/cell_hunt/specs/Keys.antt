-- The keys by which the next step is chosen: the one with the greatest key is made.
use Rattle.std.specs.Prelude.{ℕ, ◌+◌, ◌-◌, ◌*◌, ◌%◌, ◌^◌, nat_lt, if◌then◌else◌, List, map, replicate, slice_index, slice_set}
use Rattle.std.specs.List.{range_with_len}
use Rattle.cell_base.specs.declared.steps.Step.{Step}
use Rattle.cell_base.specs.declared.steps.Step.TheVariants.{Exec, Piece, Elem, Retire, Atomic, Host}
use Rattle.cell_hunt.specs.declared.strategy.Strategy.{Strategy}
use Rattle.cell_hunt.specs.Mixing.{with_number}
use Rattle.cell_hunt.specs.Strategies.{weight_of}

-- Each processor has a key, each atomic slot, the host, and each queued command of a processor by its number modulo 16. These are their places, of which a machine with
-- sixteen processors has 289.
abbrev pub queued_place : ℕ → ℕ → ℕ
queued_place p c = 33 + 16 * p + c % 16

abbrev pub place_of : Step → ℕ
place_of (Exec p) = p
place_of (Atomic p) = 16 + p
place_of Host = 32
place_of (Piece p c e k) = queued_place p c
place_of (Elem p c) = queued_place p c
place_of (Retire p c) = queued_place p c

-- the weight of the key at a place: a queued command has 1, and the others have as much as in a walk
abbrev pub key_weight : Strategy → ℕ → ℕ
key_weight strategy place = if nat_lt place 33 then weight_of strategy else 1

-- the word of the key at a place
abbrev pub random_at : ℕ → ℕ → ℕ
random_at base place = with_number base place % 2 ^ 32

-- the key at a place while it isn't lowered: keys of two places differ also if their words are the same
unfoldable pub unlowered_at : Strategy → ℕ → ℕ → ℕ
unlowered_at strategy base place = 2 ^ 32 + random_at base place * key_weight strategy place * 512 + place

-- the keys of a run: a walk computes them from the base, and otherwise they stay, by their places
pub record RunKeys : Type 0 where
  pub base : ℕ
  pub stay : List ℕ

abbrev pub key_at : Strategy → RunKeys → ℕ → ℕ
key_at strategy keys place = if strategy.walks then unlowered_at strategy keys.base place else slice_index keys.stay place

-- the keys of a base, none of them lowered
unfoldable pub opened : Strategy → ℕ → RunKeys
opened strategy base = record {
  base = base;
  stay = if strategy.walks then replicate 289 0 else map (unlowered_at strategy base) (range_with_len 0 289);
}

abbrev pub with_base : ℕ → RunKeys → RunKeys
with_base base keys = record keys { base = base }

-- A key that is lowered for the step of this number, counted from 1, is below all that aren't lowered, and below all that were lowered before.
abbrev pub with_lowered : ℕ → ℕ → RunKeys → RunKeys
with_lowered place number keys = record keys { stay = slice_set keys.stay place (2 ^ 32 - number) }
