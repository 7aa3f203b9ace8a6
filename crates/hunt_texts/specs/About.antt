-- What the text of a hunt says besides the sums of its runs.
use Rattle.std.specs.Prelude.{ℕ, Bool, List}
use Rattle.hunt_tally.specs.Coverage.{SourceLines}
use Rattle.hunt_texts.specs.declared.about.About.{About}

pub record Facts : Type 0 where
  -- the machine file as the user typed it, and the folder of the tools as the user would
  pub machine : List ℕ
  pub tools : List ℕ
  pub seed : ℕ
  -- the number of the first run
  pub from : ℕ
  -- whether lines were expected
  pub expects : Bool
  -- whether the number of steps ended the hunt
  pub by_steps : Bool
  -- whether all findings are printed
  pub all : Bool
  -- which lines of the sources the runs executed
  pub coverage : List SourceLines

abbrev pub facts : About → Facts
facts a = record { machine = a.machine.now; tools = a.tools.now; seed = a.seed; from = a.from; expects = a.expects; by_steps = a.by_steps; all = a.all; coverage = a.coverage.now }
