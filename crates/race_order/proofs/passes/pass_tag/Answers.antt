use Rattle.race_order.specs.Ordering.{fix_move}
use Rattle.race_order.specs.Tables.{sets_have}
use Rattle.race_order.proofs.Moved.{at_once, up_one}
use Rattle.race_order.proofs.passes.pass_tag.Goals as goal

pub returns-clause-has : goal.returns-clause-has
returns-clause-has c = at_once (λ g. g (fix_move c.args.spe c.args.tag)) (sets_have c.args.sets.now) (sets_have c.make.new.sets) (up_one (fix_move c.args.spe c.args.tag)) c.in_ok-make.ensures.has
