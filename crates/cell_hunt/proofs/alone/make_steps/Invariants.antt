use Rattle.std.proofs.Common.{◌≡◌, length}
use Rattle.cell_hunt.specs.Goings.{Continues}
use Rattle.cell_hunt.proofs.alone.make_steps.Given as goal

-- as many steps were made as turns of the loop, by the choices
abbrev pub invariant-loop-place : goal.invariant-loop-place
invariant-loop-place l =
    record {
      setup : l.machine.setup ≡ l.initial.machine.setup;
      made : length l.machine.steps ≡ l.place;
      chosen : Continues l.initial.chooser l.initial.machine l.chooser l.machine;
    }
