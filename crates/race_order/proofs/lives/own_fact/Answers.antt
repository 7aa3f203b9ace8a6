use Rattle.std.proofs.Common.{◌==◌, ◌+◌, ◌*◌, ap, ◌∙◌}
use Rattle.std.specs.Prelude.{nat_lt}
use Rattle.order_sets.specs.declared.facts.Fact.TheVariants.{Elements}
use Rattle.order_sets.specs.Facts.{covers}
use Rattle.race_order.specs.Status.{elements_done}
use Rattle.race_order.proofs.Gains.{whole_has, first_has}
use Rattle.race_order.proofs.lives.own_fact.Goals as goal

pub returns-then-live-clause-has : goal.returns-then-live-clause-has
returns-then-live-clause-has c = λ at.
    let l = c.args.live.now in
    whole_has (at.chain == (2 * c.args.spes + l.spe)) (at.cmd == l.cmd) (nat_lt at.elem (elements_done l.progress)) l.progress.done c.if-live.true

pub returns-else-live-clause-has : goal.returns-else-live-clause-has
returns-else-live-clause-has c = λ at.
    ap (λ below. covers (Elements (2 * c.args.spes + c.args.live.now.spe) c.args.live.now.cmd below) at) c.done_elements-below.ensures ∙ first_has _ _ _ c.if-live.false
