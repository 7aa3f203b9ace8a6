use Rattle.std.proofs.Common.{◌≡◌, ◌||◌, true, map, ap, sym, ◌∙◌}
use Rattle.std.specs.List.{list_any}
use Rattle.race_order.specs.Passes.{from_class, when, brings}
use Rattle.race_order.specs.Tables.{sets_have}
use Rattle.race_order.proofs.Moved.{at_once, up_list, or_none}
use Rattle.race_order.proofs.passes.pass_when.Goals as goal

pub returns-clause-has : goal.returns-clause-has
returns-clause-has c =
    let i = c.args.issued.now in
    let holds : c.args.holds ≡ true = c.if-not-holds.false in
    at_once (λ g. list_any g (map (from_class i.spe i.cmd) (when c.args.holds c.args.class))) (sets_have c.args.sets.now) (sets_have c.make.new.sets) (up_list (map (from_class i.spe i.cmd) (when c.args.holds c.args.class)))
    (λ r a. c.in_ok-make.ensures.has r a
    ∙ (ap (λ b. sets_have c.args.sets.now r a || b) (or_none (brings (sets_have c.args.sets.now) r a (from_class i.spe i.cmd c.args.class)))
    ∙ ap (λ h. sets_have c.args.sets.now r a || list_any (brings (sets_have c.args.sets.now) r a) (map (from_class i.spe i.cmd) (when h c.args.class))) (sym holds)))
