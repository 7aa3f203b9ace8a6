use Rattle.std.proofs.Common.{arith, [], ◌∷◌, codes}
use Rattle.state_lines.proofs.Lengths.{grown, digits-short}
use Rattle.cell_report.proofs.Lengths.{decimal-four}
use Rattle.cell_report.proofs.host.put_took.Goals as goal

pub returns-clause-short : goal.returns-clause-short
returns-clause-short c =
    let a = grown c.args.out.now.items (codes "took ") c.extend_from_slice.new.self.items 5 c.in_ok-extend_from_slice.ensures.items (omega arith) in
    let b = grown c.extend_from_slice.new.self.items _ c.put_decimal.new.out.items 4 c.in_ok-put_decimal.ensures (decimal-four c.args.took.action (omega (arith, c.requires))) in
    let d = grown c.put_decimal.new.out.items (codes " 0x") c.extend_from_slice-2.new.self.items 3 c.in_ok-extend_from_slice-2.ensures.items (omega arith) in
    let e = grown c.extend_from_slice-2.new.self.items _ c.put_hex.new.out.items 8 c.in_ok-put_hex.ensures (digits-short 8 c.args.took.value) in
    let f = grown c.put_hex.new.out.items (10 ∷ []) c.push.new.self.items 1 c.in_ok-push.ensures.items (omega arith) in
    omega (arith, a, b, d, e, f)
