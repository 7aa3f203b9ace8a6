-- How many elements of a list pass a test, and the first of them.
use Rattle.std.specs.Prelude.{ℕ, ◌+◌, ◌==◌, ◌&&◌, Bool, List, length, nat_lt, if◌then◌else◌}
use Rattle.std.specs.List.{count_by, position_or_len}
use Rattle.hunt_tally.specs.declared.count.Count.{Count}

-- the place of the first one, 0 where none passes
abbrev pub first_of : {X : Type 0} → (X → Bool) → List X → ℕ
first_of test xs = if nat_lt (position_or_len test xs) (length xs) then position_or_len test xs else 0

unfoldable pub count_of : {X : Type 0} → (X → Bool) → List X → Count
count_of test xs = record { runs = count_by test xs; first = first_of test xs }

-- the count when a run comes to it, which passes or doesn't
abbrev pub noted : ℕ → Bool → Count → Count
noted run passes c = if passes then (if c.runs == 0 then record { runs = 1; first = run } else record c { runs = c.runs + 1 }) else c

-- the count of runs and of those behind them, where so many are before these
abbrev pub with_count : ℕ → Count → Count → Count
with_count before c other = record { runs = c.runs + other.runs; first = if c.runs == 0 && nat_lt 0 other.runs then before + other.first else c.first }
