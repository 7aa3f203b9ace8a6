use Rattle.std.proofs.Common.{sym, ◌∙◌}
use Rattle.race_order.specs.Passes.{done_any}
use Rattle.race_order.specs.Tables.{sets_have}
use Rattle.race_order.proofs.Moved.{still}
use Rattle.std.specs.List.{list_any}
use Rattle.race_order.proofs.Untouched.{none_passes}
use Rattle.race_order.proofs.passes.pass_done.Goals as goal

pub returns-then-not-done-clause-has : goal.returns-then-not-done-clause-has
returns-then-not-done-clause-has c =
    still (λ g. list_any (done_any g c.args.next.now) c.args.next.now) (sets_have c.args.sets.now) (λ g. none_passes g c.args.next.now c.args.next.now (sym c.requires.done ∙ c.if-not-done.true))
