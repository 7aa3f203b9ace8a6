use Rattle.std.proofs.Common.{◌≡◌, ◌-◌}
use Rattle.cell_hunt.specs.Choices.{walked}
use Rattle.cell_hunt.proofs.chooser.first_drawn.Given as goal

-- none of the actors that were drawn has a step
abbrev pub invariant-loop : goal.invariant-loop
invariant-loop l = walked l.machine l.strategy l.word 8 l.initial.words ≡ walked l.machine l.strategy l.word (8 - l.counter) l.words
