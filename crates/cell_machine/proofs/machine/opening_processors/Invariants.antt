use Rattle.std.proofs.Common.{◌≡◌, take, map}
use Rattle.std.specs.List.{enumerate_from}
use Rattle.cell_machine.specs.Opening.{Opening, opening_spe}
use Rattle.cell_machine.specs.Limits.{shown}
use Rattle.cell_machine.specs.Shows.{AllTwo, ShowsSpe}
use Rattle.cell_machine.proofs.machine.opening_processors.Given as goal

-- the processors so far show those of the start
abbrev pub invariant-loop-spe : goal.invariant-loop-spe
invariant-loop-spe l = (S : Opening) → S.or_modes ≡ l.or_modes → S.placed ≡ shown l.placed → AllTwo ShowsSpe l.processors.items (map (opening_spe S) (enumerate_from 0 (take l.spe l.entries)))
