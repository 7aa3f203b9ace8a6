use Rattle.std.proofs.Common.{◌≡◌, ◌+◌, ◌*◌, ◌%◌, ◌<◌, length, sym, ap, ap₂, ◌∙◌, subst, arith}
use Rattle.std.proofs.lemmas.List.{length_push}
use Rattle.reorder_laws.specs.OrderedLaws.{IsOrdered}
use Rattle.run_permute.specs.Nth.{AreChosen}
use Rattle.run_permute.proofs.Nths.{chosen-more}
use Rattle.run_permute.proofs.Stages.{inside-from, some-place, is-chosen}
use Rattle.run_permute.proofs.choosing.order_of_number.Goals as goal

pub new-requires-clause-inside : goal.new-requires-clause-inside
new-requires-clause-inside c = inside-from c.args.whole.now (length c.args.whole.now.steps) c.args.needs.now c.requires.needs

pub take-requires-clause-inside : goal.take-requires-clause-inside
take-requires-clause-inside c = inside-from c.args.whole.now (length c.args.whole.now.steps) c.args.needs.now c.requires.needs

pub position-at-requires : goal.position-at-requires
position-at-requires c =
    let m = c.args.whole.now in
    let all : length c.args.needs.now ≡ length m.steps = c.requires.needs.all in
    let count : length c.loop-taken.order.steps.items ≡ c.loop-taken.taken = c.loop-taken.invariant.count in
    let low : c.loop-taken.taken < length c.args.needs.now = c.loop-taken-test.true in
    let some : 0 < length c.loop-taken.order.free.items = some-place m (length m.steps) c.args.number c.args.needs.now c.requires.needs c.loop-taken.order c.loop-taken.invariant.stage c.loop-taken.invariant.chosen (omega arith) in
    let free : c.count.result ≡ length c.loop-taken.order.free.items = c.count.ensures in
    omega arith

pub loop-taken-preserved : goal.loop-taken-preserved
loop-taken-preserved c =
    let m = c.args.whole.now in
    let all : length c.args.needs.now ≡ length m.steps = c.requires.needs.all in
    let count : length c.loop-taken.order.steps.items ≡ c.loop-taken.taken = c.loop-taken.invariant.count in
    let low : c.loop-taken.taken < length c.args.needs.now = c.loop-taken-test.true in
    let more = c.in_ok-take.ensures.taken in
    let at = c.position-at.ensures.chosen ∙ ap₂ (λ t f. (c.args.number * (t + 1)) % f) (sym c.loop-taken.invariant.count) c.count.ensures in
    let chosen = is-chosen m (length m.steps) c.args.number c.args.needs.now c.requires.needs c.loop-taken.order c.loop-taken.invariant.stage c.loop-taken.invariant.chosen c.position-at.result more.step (omega arith) at more.chosen in
    record {
      count = ap length more.is ∙ length_push c.loop-taken.order.steps.items more.step ∙ ap (λ n. n + 1) c.loop-taken.invariant.count;
      stage = c.in_ok-take.ensures.stage;
      chosen = subst (AreChosen (IsOrdered m) (length m.steps) c.args.number) (sym more.is) (chosen-more (IsOrdered m) (length m.steps) c.args.number c.loop-taken.order.steps.items more.step c.loop-taken.invariant.chosen chosen);
    }
