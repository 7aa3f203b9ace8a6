use Rattle.std.proofs.Common.{◌≡◌, ℕ, ◌<◌, false}
use Rattle.std.specs.Prelude.{Some}
use Rattle.cell_machine.specs.Spe.{Spe, is_faulted}
use Rattle.cell_machine.specs.Run.{spe_of}
use Rattle.run_permute.proofs.faults.has_no_fault.Given as goal

abbrev pub invariant-loop-spe : goal.invariant-loop-spe
invariant-loop-spe l = (p : ℕ) (P : Spe) → p < l.spe → spe_of l.m p ≡ Some P → is_faulted P.status ≡ false
