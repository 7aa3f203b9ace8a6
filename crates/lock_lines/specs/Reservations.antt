-- The reservations of lines, as contracts see them.
use Rattle.std.specs.Prelude.{ℕ, List, Option}

pub record Reservations : Type 0 where
  pub spes : ℕ  -- how many processors there are
  pub lines : ℕ  -- and how many lines
  pub holding : ℕ  -- bit p, of value 2^p: processor p still holds the line that it reserved last
  pub reserved : List (Option ℕ)  -- of each processor the line that it reserved last, None where it reserved none or gave it up
