use Rattle.std.proofs.Common.{arith}
use Rattle.state_lines.proofs.Lengths.{line-short, decimal-short, status-short, place-short}
use Rattle.state_lines.proofs.Shown.{on_ok}
use Rattle.state_lines.proofs.spes.put_line.Goals as goal

pub returns-clause-short : goal.returns-clause-short
returns-clause-short c =
    on_ok c.put_place.result _ _ (λ placed.
    line-short c.args.out.now.items c.extend_from_slice.new.self.items c.put_decimal.new.out.items c.push.new.self.items c.put_status.new.out.items _ _ _ _ _ _
    c.in_ok-extend_from_slice.ensures.items c.in_ok-put_decimal.ensures c.in_ok-push.ensures.items c.in_ok-put_status.ensures placed
    (omega arith) (decimal-short c.from.result (omega arith)) (omega arith) (status-short c.args.status) (place-short c.args.pc c.args.queued (omega arith)))
    c.put_place.ensures
