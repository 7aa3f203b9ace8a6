use Rattle.std.proofs.Common.{◌++◌, ap, map, ◌∙◌}
use Rattle.lost_values.specs.Keeping.{ending_of}
use Rattle.lost_values.proofs.Replaced.{all-losses}
use Rattle.lost_values.proofs.losses.Losses.finish.Goals as goal

pub returns : goal.returns
returns c = λ m knows.
    all-losses m c.args.self.lost.items knows.losses c.args.self.stores.items knows.stores c.add_endings.new.losses.items
    (c.in_ok-add_endings.ensures ∙ ap (λ vs. c.args.self.lost.items ++ map ending_of vs) c.as_slice.ensures.value)
