use Rattle.std.proofs.Common.{rules, ◌≡◌, ◌+◌, length, set, ap, sym, subst, ◌∙◌}
use Rattle.std.specs.Prelude.{All, slice_index}
use Rattle.std.proofs.lemmas.List.Elements.{All-push, All-nil}
use Rattle.race_order.specs.declared.buckets.Bucket.{Bucket}
use Rattle.race_order.specs.Tables.{number, named_has, AreRowsOf}
use Rattle.race_order.proofs.HasIn.{has_placed}
use Rattle.race_order.proofs.table.Table.make.Goals as goal

pub returns-clause-has : goal.returns-clause-has
returns-clause-has c = λ r at.
    let old = c.args.self.now.buckets.items in
    let places = c.lengthen.new.places.items in
    let slot = c.number-number.result in
    let n = c.len-k.result + 1 in
    let same : slice_index places (number r) ≡ slice_index c.args.self.now.places.items (number r) = c.in_ok-lengthen.ensures.same (number r) in
    let long : c.len-k.result ≡ length old = search rules in
    ap (λ bs. named_has bs (slice_index (set places slot n) (number r)) r at) c.in_ok-push.ensures.items
    ∙ (has_placed places old slot n (number r) c.new.result r at c.new.ensures c.in_ok-lengthen.ensures.long (ap (λ k. k + 1) long)
    (λ here. ap (λ k. named_has old k r at) same ∙ c.requires r at (here ∙ c.number-number.ensures.number))
    ∙ ap (λ k. named_has old k r at) same)

pub returns-clause-chains : goal.returns-clause-chains
returns-clause-chains c = λ n h.
    let empty : AreRowsOf n c.new.result.rows.items = subst (AreRowsOf n) (sym c.new.ensures) (All-nil _) in
    (h.0, h.1, h.2, subst (All (λ (b : Bucket). AreRowsOf n b.rows.items)) (sym c.in_ok-push.ensures.items) (All-push (λ (b : Bucket). AreRowsOf n b.rows.items) c.args.self.now.buckets.items c.new.result h.3 empty))
