use Rattle.std.proofs.Common.{arith, [], ◌∷◌}
use Rattle.state_lines.proofs.Lengths.{grown, decimal-three, bytes-short}
use Rattle.state_lines.proofs.spes.put_register.Goals as goal

pub returns-clause-short : goal.returns-clause-short
returns-clause-short c =
    let a = grown c.args.out.now.items (114 ∷ []) c.push.new.self.items 1 c.in_ok-push.ensures.items (omega arith) in
    let b = grown c.push.new.self.items _ c.put_decimal.new.out.items 3 c.in_ok-put_decimal.ensures (decimal-three c.from.result (omega arith)) in
    let d = grown c.put_decimal.new.out.items (32 ∷ []) c.push-2.new.self.items 1 c.in_ok-push-2.ensures.items (omega arith) in
    let e = grown c.push-2.new.self.items _ c.put_hex_bytes.new.out.items _ c.in_ok-put_hex_bytes.ensures (bytes-short c.bytes.result) in
    let f = grown c.put_hex_bytes.new.out.items (10 ∷ []) c.push-3.new.self.items 1 c.in_ok-push-3.ensures.items (omega arith) in
    omega (arith, a, b, d, e, f)
