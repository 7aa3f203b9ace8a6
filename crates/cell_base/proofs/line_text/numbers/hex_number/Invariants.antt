use Rattle.std.proofs.Common.{◌≡◌, ◌<◌, ◌≤◌, ◌-◌, ◌^◌, length}
use Rattle.cell_base.specs.Numbers.{hex_value}
use Rattle.cell_base.proofs.line_text.numbers.hex_number.Given as goal

abbrev pub invariant-loop-c : goal.invariant-loop-c
invariant-loop-c l = record { few : length l.rest ≤ 8; below : l.n < 16 ^ (8 - length l.rest); whole : hex_value l.n l.rest ≡ hex_value 0 l.digits }

abbrev pub decreases-loop-c : goal.decreases-loop-c
decreases-loop-c l = length l.rest
