use Rattle.std.proofs.Common.{◌≡◌, ◌&&◌, ◌||◌, not, true, sym, ap, ap₂, ◌∙◌}
use Rattle.race_order.specs.Passes.{into_stalled, brings}
use Rattle.race_order.specs.Tables.{sets_have}
use Rattle.race_order.proofs.Moved.{at_once, up_and, up_one}
use Rattle.race_order.proofs.going.pass_stall.Goals as goal

pub returns-clause-has : goal.returns-clause-has
returns-clause-has c =
    let l = c.args.live.now in
    let n = c.args.next.now in
    let stalls : (not l.progress.stalled && n.progress.stalled) ≡ true = ap₂ (λ a b. not a && b) c.if-live.false c.if-not-next.false in
    at_once (λ g. (not l.progress.stalled && n.progress.stalled) && g (into_stalled l)) (sets_have c.args.sets.now) (sets_have c.make.new.sets)
    (up_and (not l.progress.stalled && n.progress.stalled) (λ g. g (into_stalled l)) (up_one (into_stalled l)))
    (λ r a. c.in_ok-make.ensures.has r a ∙ ap (λ b. sets_have c.args.sets.now r a || (b && brings (sets_have c.args.sets.now) r a (into_stalled l))) (sym stalls))
