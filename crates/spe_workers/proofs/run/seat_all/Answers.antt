use Rattle.std.proofs.Common.{arith, ◌≡◌, ◌*◌, ◌+◌, ap, subst, slice_get, Some}
use Rattle.cell_turn.specs.Known.{Known}
use Rattle.spe_workers.proofs.Ending.{left_split, new_split, new_more}
use Rattle.spe_workers.specs.Seated.{actors_of}
use Rattle.spe_workers.proofs.Seating.{seats_more, seated}
use Rattle.spe_workers.proofs.run.seat_all.Goals as goal

pub loop-number-preserved : goal.loop-number-preserved
loop-number-preserved c =
    let i = c.loop-number.invariant in
    let s = c.args.shared.now in
    let n = c.push_reserved.ensures in
    let left = ap (λ (k : Known). k.tokens) c.split.ensures.left in record {
      own = left_split c.loop-number.first _ s i.own c.split.ensures.left;
      tokens = omega (arith, left, i.tokens, c.from-last.ensures, c.loop-number-test.true);
      within = omega (arith, c.from-last.ensures, c.loop-number-test.true);
      count = omega (arith, n.len, i.count);
      room = omega (arith, n.capacity, i.room);
      seated = seats_more c.args.spes c.loop-number.number _ _ _ i.seated n.items c.actor_of.ensures (omega arith);
      new = new_more s _ _ _ i.new n.items (new_split c.loop-number.first c.split.result s i.own c.split.ensures.new);
    }

pub returns-clause-seated : goal.returns-clause-seated
returns-clause-seated c =
    let i = c.loop-number.invariant in
    let n = c.push_reserved-2.ensures in
    let last : 2 * c.from-last.result ≡ c.loop-number.number = omega (arith, c.from-last.ensures, i.within, c.loop-number-test.false) in
    let actor = subst (λ k. slice_get (actors_of c.args.spes) k ≡ Some c.actor_of-2.result) last c.actor_of-2.ensures in
    seated c.args.spes (c.loop-number.number + 1) _ (omega (arith, last, c.from-last.ensures)) (omega (arith, i.count, n.len)) (seats_more c.args.spes c.loop-number.number _ _ _ i.seated n.items actor last)
