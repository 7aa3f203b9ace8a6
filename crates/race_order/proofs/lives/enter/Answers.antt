use Rattle.std.proofs.Common.{arith, ap}
use Rattle.race_order.specs.declared.lives.Live.{Live}
use Rattle.race_order.specs.Status.{elements_done}
use Rattle.race_order.proofs.Statuses.{done_after}
use Rattle.race_order.proofs.lives.enter.Goals as goal

pub own_fact-own-requires-clause-room : goal.own_fact-own-requires-clause-room
own_fact-own-requires-clause-room c =
    let l = c.args.live.now in
    let b = c.args.brought.now in
    let same = ap (λ (v : Live). elements_done v.progress) c.requires.next in
    let few = done_after l.spe l.cmd l.progress c.requires.live b.step b.effect.now.note in
    omega (arith, c.requires.room)

pub bring-requires-clause-more : goal.bring-requires-clause-more
bring-requires-clause-more c = c.own_fact-own.ensures.fits _

pub add-requires-clause-fact : goal.add-requires-clause-fact
add-requires-clause-fact c = c.own_fact-own.ensures.fits _
