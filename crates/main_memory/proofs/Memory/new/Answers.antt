use Rattle.std.proofs.Common.{◌+◌, ◌*◌, ◌/◌}
use Rattle.main_memory.proofs.PageLaws.{none_in}
use Rattle.main_memory.proofs.Memory.new.Goals as goal

pub returns : goal.returns
returns c =
    none_in (128 * c.args.lines) (128 * c.args.lines / 4096 + 1) c.in_ok-numbers.numbers.items c.in_ok-kept.kept.items
    (c.in_ok-numbers.ensures.items_if_clones_equal (λ y same. same))
