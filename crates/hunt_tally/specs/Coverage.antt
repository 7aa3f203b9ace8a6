-- Which lines of a source a hunt executed.
use Rattle.std.specs.Prelude.{ℕ, List}
use Rattle.hunt_tally.specs.declared.coverage.LineCoverage.{LineCoverage}

pub record SourceLines : Type 0 where
  pub name : List ℕ
  pub lines : List LineCoverage  -- those with an instruction
