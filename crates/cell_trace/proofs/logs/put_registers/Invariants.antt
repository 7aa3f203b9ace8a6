use Rattle.std.proofs.Common.{◌≡◌, ◌++◌}
use Rattle.cell_trace.specs.Logs.{register_fields}
use Rattle.cell_trace.proofs.LogLaws.{fields_left}
use Rattle.cell_trace.proofs.logs.put_registers.Given as goal

-- what was written, in front of the fields of the registers that are left, is the fields of all
abbrev pub invariant-loop-r : goal.invariant-loop-r
invariant-loop-r l = l.out.items ++ fields_left l.spe l.before l.after l.r ≡ l.fn.out.items ++ register_fields l.spe l.before l.after
