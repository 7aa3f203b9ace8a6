use Rattle.std.proofs.Common.{◌≡◌, ◌+◌, ◌-◌, ◌∙◌, ap, sym, length, arith}
use Rattle.std.specs.Prelude.{replicate}
use Rattle.local_store.proofs.Kept.{copied_over, past}
use Rattle.local_store.proofs.copy_past.Goals as goal

pub returns-then-at-bytes : goal.returns-then-at-bytes
returns-then-at-bytes c =
    copied_over c.args.bytes.now c.fill.new.self c.copy_from_slice.new.self c.args.at (length c.args.into.now) c.if-at-bytes.true c.requires.past c.requires.range
    (c.fill.ensures.after (λ y same. same)) c.copy_from_slice.ensures.after

pub returns-else-at-bytes : goal.returns-else-at-bytes
returns-else-at-bytes c =
    let n : length c.args.into.now ≡ c.args.at + length c.args.into.now - c.args.at = omega arith in
    c.fill.ensures.after (λ y same. same) ∙ ap (λ k. replicate k 0) n ∙ sym (past c.args.bytes.now c.args.at (c.args.at + length c.args.into.now) c.if-at-bytes.false (omega arith) c.requires.range)
