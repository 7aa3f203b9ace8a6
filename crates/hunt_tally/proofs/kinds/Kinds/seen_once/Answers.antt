use Rattle.std.proofs.Common.{◌≡◌, ◌+◌, ◌<◌, eqb, eq-eqb, get_or, length, sym, ap, ◌∙◌}
use Rattle.std.proofs.lemmas.Bool.{ne_eqb}
use Rattle.std.proofs.lemmas.List.Sums.{count_by_more_yes, count_by_more_no}
use Rattle.std.proofs.lemmas.Option.{get_or_from_slice_get, slice_get_within}
use Rattle.hunt_tally.specs.declared.kinds.Kind.{Kind}
use Rattle.hunt_tally.proofs.kinds.Kinds.seen_once.Goals as goal
use Rattle.hunt_tally.proofs.kinds.Kinds.seen_once.Goals.{then-get-eq1, else-get-eq1}

pub loop-place-preserved : goal.loop-place-preserved
loop-place-preserved c =
    let kinds = c.args.self.now in
    let place = c.loop-place.place in
    let d = c.get.result in
    let inside : place < length kinds = slice_get_within kinds place d c.get.ensures in
    let same : get_or kinds place d ≡ d = get_or_from_slice_get kinds place d d c.get.ensures in
    elim c.if-get-eq1.branch [
      | then-get-eq1 w ↦ w.once-is ∙ ap (λ n. n + 1) c.loop-place.invariant ∙ sym (count_by_more_yes (λ (k : Kind). eqb k.runs 1) kinds place d inside (ap (λ (k : Kind). eqb k.runs 1) same ∙ eq-eqb d.runs 1 w.if-get-eq1.true))
      | else-get-eq1 w ↦ w.once-is ∙ c.loop-place.invariant ∙ sym (count_by_more_no (λ (k : Kind). eqb k.runs 1) kinds place d inside (ap (λ (k : Kind). eqb k.runs 1) same ∙ ne_eqb d.runs 1 w.if-get-eq1.false))
    ]
