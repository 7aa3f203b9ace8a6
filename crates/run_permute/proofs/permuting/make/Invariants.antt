use Rattle.std.proofs.Common.{◌≡◌, take}
use Rattle.race_check.specs.Reorderings.{at_places}
use Rattle.cell_machine.specs.Run.{Ran}
use Rattle.run_permute.proofs.permuting.make.Given as goal

abbrev pub invariant-loop-place : goal.invariant-loop-place
invariant-loop-place l = let made : Ran = record { setup = l.setup; steps = at_places l.steps (take l.place-index l.order) } in l.machine ≡ made
