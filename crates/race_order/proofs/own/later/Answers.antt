use Rattle.std.proofs.Common.{rules, ◌≡◌, ◌==◌, ◌||◌, ◌&&◌, max, ap, sym, ◌∙◌}
use Rattle.std.specs.Prelude.{nat_le}
use Rattle.race_order.specs.Tables.{upto_last}
use Rattle.race_order.proofs.OwnSets.{up_to_both}
use Rattle.race_order.proofs.own.later.Goals as goal

pub returns-in-Some : goal.returns-in-Some
returns-in-Some c = λ p at.
    let is : c.max.result ≡ max c.in-Some.last c.args.place = search rules in
    ap (λ k. (at.chain == p) && nat_le at.place k) is
    ∙ (up_to_both (at.chain == p) at.place c.in-Some.last c.args.place
    ∙ ap (λ l. upto_last p l at || ((at.chain == p) && nat_le at.place c.args.place)) (sym c.in-Some.is))
