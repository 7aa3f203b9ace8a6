use Rattle.std.proofs.Common.{◌∙◌}
use Rattle.race_order.proofs.OrderedRuns.{both, run-long, run-stands, next-may, stands-next}
use Rattle.race_order.proofs.Runs.{keeps-status, is-orderly}
use Rattle.race_order.proofs.orderer.Orderer.advance.Goals as goal

pub take-requires : goal.take-requires
take-requires g c =
    let st = c.requires.0 in
    let next = next-may c.args.self.now g.m c.args.step c.args.effect st c.requires.1 in
    (run-stands c.args.self.now g.m st, (next.may, (next.queue, next.room)))

pub returns-clause-stands : goal.returns-clause-stands
returns-clause-stands g c =
    let st = c.requires.0 in
    both _ _ _ c.take.result c.take.ensures.stands c.take.ensures.place (λ place made at. stands-next c.args.self.now c.take.new.self g.m c.args.step c.args.effect st c.requires.1 made c.take.ensures.spes)

pub returns-clause-place : goal.returns-clause-place
returns-clause-place g c =
    both _ _ _ c.take.result c.take.ensures.place c.take.ensures.place (λ place at same. at ∙ run-long c.args.self.now g.m c.requires.0)

pub returns-clause-tells : goal.returns-clause-tells
returns-clause-tells g c = keeps-status

pub returns-clause-orderly : goal.returns-clause-orderly
returns-clause-orderly g c = is-orderly
