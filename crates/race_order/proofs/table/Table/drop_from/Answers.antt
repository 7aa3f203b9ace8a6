use Rattle.std.proofs.Common.{ap, sym, subst, ◌∙◌}
use Rattle.std.proofs.lemmas.List.Elements.{All-set}
use Rattle.race_order.specs.declared.buckets.Bucket.{Bucket}
use Rattle.race_order.specs.Tables.{place_of, bucket_has, AreRowsOf}
use Rattle.race_order.proofs.HasIn.{named_kept}
use Rattle.race_order.proofs.table.Table.drop_from.Goals as goal

pub returns-in-Some-clause-has : goal.returns-in-Some-clause-has
returns-in-Some-clause-has c = λ r at q.
    named_kept c.args.self.now.buckets.items c.in-Some.k (place_of c.args.self.now.places.items r) c.drop_over.new.self c.index_mut.result.now r at c.in-Some.ensures.inside
    (c.drop_over.ensures.has r at q ∙ ap (bucket_has r at) c.index_mut.ensures.value)

pub returns-in-Some-clause-chains : goal.returns-in-Some-clause-chains
returns-in-Some-clause-chains c = λ n h.
    let rows : AreRowsOf n c.index_mut.result.now.rows.items = subst (λ (b : Bucket). AreRowsOf n b.rows.items) (sym c.index_mut.ensures.value) (h.3 c.in-Some.k c.index_mut.result.now c.in-Some.ensures.inside) in
    (h.0, h.1, h.2, All-set (λ (b : Bucket). AreRowsOf n b.rows.items) c.args.self.now.buckets.items c.in-Some.k c.drop_over.new.self (c.drop_over.ensures.chains n rows) h.3)
