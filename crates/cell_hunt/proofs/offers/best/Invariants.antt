use Rattle.cell_hunt.specs.Bests.{IsBestOf}
use Rattle.cell_hunt.specs.Choices.{key_of}
use Rattle.cell_hunt.specs.Offers.{offered_by_first}
use Rattle.cell_hunt.proofs.offers.best.Given as goal

-- the best of the processors so far
abbrev pub invariant-loop-spe : goal.invariant-loop-spe
invariant-loop-spe l = IsBestOf (key_of l.machine l.strategy l.keys) (offered_by_first l.machine l.word l.spe) l.best
