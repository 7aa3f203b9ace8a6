use Rattle.std.proofs.Common.{◌+◌, ap, drop, sym, ◌∙◌}
use Rattle.std.specs.Prelude.{fold, slice_index}
use Rattle.std.proofs.lemmas.List.Sums.{fold-append}
use Rattle.cell_hunt.specs.Kinds.{touched}
use Rattle.cell_hunt.specs.Mixing.{with_number}
use Rattle.cell_hunt.specs.Touched.{touched_from}
use Rattle.cell_hunt.proofs.Untouched.{from_next, none_from}
use Rattle.cell_hunt.proofs.touched.Touched.kind.Goals as goal

pub loop-from-preserved : goal.loop-from-preserved
loop-from-preserved c =
    let digests = c.args.self.now.digests in
    let what = c.in-Some.what in
    let rest = touched_from (what + 1) (drop (what + 1) digests) in
    ap (λ digest. fold with_number digest rest) (c.with_touched-digest.ensures ∙ ap (λ who. fold with_number c.loop-from.digest (touched what who)) c.get.ensures)
    ∙ sym (fold-append with_number c.loop-from.digest (touched what (slice_index digests what)) rest)
    ∙ ap (fold with_number c.loop-from.digest) (sym (from_next digests c.loop-from.from what c.in-Some.ensures.inside c.in-Some.ensures.next))
    ∙ c.loop-from.invariant

pub returns-in_default : goal.returns-in_default
returns-in_default c =
    ap (fold with_number c.loop-from.digest) (sym (none_from c.args.self.now.digests c.loop-from.from c.in_default.ensures.next)) ∙ c.loop-from.invariant
