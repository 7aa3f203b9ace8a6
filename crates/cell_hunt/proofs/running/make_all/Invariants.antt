use Rattle.std.proofs.Common.{◌≡◌, length}
use Rattle.cell_hunt.specs.Goings.{Continues}
use Rattle.cell_hunt.specs.SoFar.{IsSearchedTo, made_by}
use Rattle.cell_hunt.proofs.running.make_all.Given as goal

-- as many steps were made as turns of the loop, by the choices
abbrev pub invariant-loop-place : goal.invariant-loop-place
invariant-loop-place l =
    record {
      searched : IsSearchedTo l.place l.so_far;
      setup : (made_by l.so_far).setup ≡ (made_by l.initial.so_far).setup;
      made : length (made_by l.so_far).steps ≡ l.place;
      chosen : Continues l.initial.chooser (made_by l.initial.so_far) l.chooser (made_by l.so_far);
    }
