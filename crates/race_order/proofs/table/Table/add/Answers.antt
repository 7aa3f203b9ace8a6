use Rattle.std.proofs.Common.{◌<◌, ◌||◌, ◌&&◌, length, ap, ◌∙◌}
use Rattle.order_sets.specs.Facts.{covers}
use Rattle.race_order.specs.Tables.{same_role, bucket_has}
use Rattle.race_order.proofs.HasIn.{has_more}
use Rattle.race_order.proofs.table.Table.add.Goals as goal

pub returns-clause-has : goal.returns-clause-has
returns-clause-has c = λ r at.
    let inside : c.in_ok-k.k < length c.bucket.new.self.buckets.items = c.in_ok-k.ensures.inside in
    has_more c.bucket.new.self.places.items c.bucket.new.self.buckets.items c.in_ok-k.k c.args.role c.add.new.self c.index_mut.result.now r at (covers c.args.fact at) c.in_ok-k.ensures.place inside
    (c.in_ok-add.ensures.has r at ∙ ap (λ b. bucket_has r at b || (same_role c.args.role r && covers c.args.fact at)) c.index_mut.ensures.value)
    ∙ ap (λ b. b || (same_role c.args.role r && covers c.args.fact at)) (c.in_ok-k.ensures.has r at)
