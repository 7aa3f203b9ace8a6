use Rattle.std.specs.Prelude.{List, ◌++◌}
use Rattle.cell_base.specs.declared.steps.Step.{Step}
use Rattle.cell_hunt.specs.Bests.{IsBestOf}
use Rattle.cell_hunt.specs.Choices.{key_of}
use Rattle.cell_hunt.specs.Offers.{offered_by_queue}
use Rattle.cell_hunt.proofs.offers.with_queue.Given as goal

-- the best of the commands so far
abbrev pub invariant-loop-index : goal.invariant-loop-index
invariant-loop-index l =
    (steps : List Step) → IsBestOf (key_of l.machine l.strategy l.keys) steps l.initial.best → IsBestOf (key_of l.machine l.strategy l.keys) (steps ++ offered_by_queue l.machine l.word l.spe l.index) l.best
