use Rattle.std.proofs.Common.{◌≡◌, ◌+◌, drop, get_or, eqb, false, eq-eqb, arith}
use Rattle.hunt_texts.specs.Watches.{same_bytes}
use Rattle.hunt_texts.proofs.SameLemmas.{same_more, same_ends, same_done}
use Rattle.hunt_texts.proofs.watches.same_bytes.Goals as goal

pub loop-place-preserved : goal.loop-place-preserved
loop-place-preserved c =
    let below = c.loop-place-test.true in
    let least = c.min-most.ensures in
    let so_far : c.loop-place.place + same_bytes (drop c.loop-place.place c.args.line.now) (drop c.loop-place.place c.args.other.now) ≡ same_bytes c.args.line.now c.args.other.now = c.loop-place.invariant in
    let more = same_more c.args.line.now c.args.other.now c.loop-place.place (omega (arith, below, least)) (omega (arith, below, least)) (eq-eqb _ _ c.if-line-place.false) in
    omega (arith, more, so_far)

pub returns-then-line-place : goal.returns-then-line-place
returns-then-line-place c =
    let differ : eqb (get_or c.args.line.now c.loop-place.place 0) (get_or c.args.other.now c.loop-place.place 0) ≡ false = grind (arith, c.if-line-place.true) in
    let so_far : c.loop-place.place + same_bytes (drop c.loop-place.place c.args.line.now) (drop c.loop-place.place c.args.other.now) ≡ same_bytes c.args.line.now c.args.other.now = c.loop-place.invariant in
    let none = same_ends c.args.line.now c.args.other.now c.loop-place.place differ in
    omega (arith, none, so_far)

pub returns : goal.returns
returns c =
    let past = c.loop-place-test.false in
    let end = c.loop-place.auto.place-end in
    let least = c.min-most.ensures in
    let so_far : c.loop-place.place + same_bytes (drop c.loop-place.place c.args.line.now) (drop c.loop-place.place c.args.other.now) ≡ same_bytes c.args.line.now c.args.other.now = c.loop-place.invariant in
    let none = same_done c.args.line.now c.args.other.now c.loop-place.place (omega (arith, past, least)) in
    omega (arith, none, so_far, past, end)
