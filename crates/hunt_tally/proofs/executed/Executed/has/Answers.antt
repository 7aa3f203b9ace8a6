use Rattle.std.proofs.Common.{◌≡◌, ◌<◌, ◌≤◌, false, sym, ap, ◌∙◌, arith}
use Rattle.std.specs.Prelude.{nat_lt}
use Rattle.hunt_tally.specs.Executed.{is_among, is_marked, most}
use Rattle.hunt_tally.proofs.ExecutedLemmas.{among_marks, most_is, no_marks}
use Rattle.hunt_tally.proofs.executed.Executed.has.Goals as goal

pub returns-then-number-lt-MOST : goal.returns-then-number-lt-MOST
returns-then-number-lt-MOST c =
    let is = most_is in
    let test = c.if-number-lt-MOST.true in
    let low : c.args.number < most = omega (arith, is, test) in
    c.is_marked.ensures ∙ ap (λ marks. is_marked marks c.args.number) c.as_slice.ensures.value
    ∙ sym (among_marks c.self.inside.marks.items c.args.number low) ∙ ap (is_among c.args.number) c.self.view_is

pub returns-else-number-lt-MOST : goal.returns-else-number-lt-MOST
returns-else-number-lt-MOST c =
    let is = most_is in
    let test = c.if-number-lt-MOST.false in
    let high : most ≤ c.args.number = omega (arith, is, test) in
    let out : nat_lt c.args.number 1048576 ≡ false = grind (arith, test) in
    out ∙ sym (no_marks c.self.inside.marks.items c.args.number high) ∙ ap (is_among c.args.number) c.self.view_is
