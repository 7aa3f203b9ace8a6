use Rattle.std.proofs.Common.{◌+◌, ◌≤◌, ◌∙◌, ap, sym, length, slice_range, arith, rules}
use Rattle.local_store.proofs.Kept.{kept}
use Rattle.local_store.proofs.LocalStore.copy_out.Goals as goal

pub returns-then-end-len : goal.returns-then-end-len
returns-then-end-len c =
    let at = c.args.at in
    let end = at + length c.args.into.now in
    let inside : end ≤ length c.self.inside.bytes.items = search rules in
    c.copy_from_slice.ensures.after ∙ ap (λ xs. slice_range xs at end) c.deref.ensures.value ∙ sym (kept c.self.inside.bytes.items at end (omega arith) inside)
    ∙ ap (λ s. slice_range s at end) c.self.view_is
