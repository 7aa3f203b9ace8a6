use Rattle.std.proofs.Common.{◌≡◌, ◌-◌, map}
use Rattle.cell_load.specs.Loaded.{bad_word_from}
use Rattle.cell_load.specs.LoadViews.{load_of}
use Rattle.cell_load.proofs.rows.check_processors.Given as goal

-- what is left is all
abbrev pub invariant-loop-spe : goal.invariant-loop-spe
invariant-loop-spe l = bad_word_from (map load_of l.loads) 0 l.spes ≡ bad_word_from (map load_of l.loads) l.spe (l.spes - l.spe)
