use Rattle.std.proofs.Common.{◌≡◌, ◌++◌, take}
use Rattle.std.specs.List.{flat_map}
use Rattle.cell_base.specs.Hex.{byte_hex}
use Rattle.cell_base.proofs.line_text.hex.put_hex_bytes.Given as goal

abbrev pub invariant-loop-b : goal.invariant-loop-b
invariant-loop-b l = l.out.items ≡ l.fn.out.items ++ flat_map byte_hex (take l.b-index l.bytes)
