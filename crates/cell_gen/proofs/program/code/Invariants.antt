use Rattle.std.proofs.Common.{◌≡◌, ◌*◌, take, vec_len}
use Rattle.std.specs.List.{flat_map}
use Rattle.cell_gen.specs.Program.{word_bytes}
use Rattle.cell_gen.proofs.program.code.Given as goal

abbrev pub invariant-loop-i : goal.invariant-loop-i
invariant-loop-i l = record {
  bytes : l.bytes.items ≡ flat_map word_bytes (take l.i-index l.i-items);
  long : vec_len l.bytes ≡ 4 * l.i-index;
}
