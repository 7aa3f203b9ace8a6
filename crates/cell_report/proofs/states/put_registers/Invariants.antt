use Rattle.std.proofs.Common.{◌≡◌, ◌≤◌, ◌+◌, ◌*◌, ◌++◌, length, drop}
use Rattle.cell_report.specs.States.{register_lines}
use Rattle.cell_report.proofs.states.put_registers.Given as goal

abbrev pub invariant-loop-quad : goal.invariant-loop-quad
invariant-loop-quad l = record { number : l.r ≡ l.quad-index; short : length l.out.items ≤ length l.fn.out.items + 38 * l.quad-index; whole : l.out.items ++ register_lines l.r (drop l.quad-index l.registers) ≡ l.fn.out.items ++ register_lines 0 l.registers }
