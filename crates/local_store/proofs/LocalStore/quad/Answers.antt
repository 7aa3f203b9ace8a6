use Rattle.std.proofs.Common.{◌+◌, ◌≤◌, ◌∙◌, ap, length, slice_range, rules}
use Rattle.local_store.proofs.Kept.{quad_kept, quad_past}
use Rattle.local_store.proofs.LocalStore.quad.Goals as goal

pub returns-then-at-len : goal.returns-then-at-len
returns-then-at-len c =
    let behind : length c.self.inside.bytes.items ≤ c.line_of-at.result = search rules in
    quad_past _ _ _ c.args.at c.line_of-at.result c.self.view_is c.line_of-at.ensures.value behind c.line_of-at.ensures.within c.of_bytes.ensures

pub returns : goal.returns
returns c =
    let l = c.line_of-at.result in
    let inside : l + 16 ≤ length c.self.inside.bytes.items = search rules in
    quad_kept c.self.inside.bytes.items _ _ c.args.at l c.self.view_is c.line_of-at.ensures.value inside
    (c.of_bytes-2.ensures ∙ c.copy_from_slice.ensures.after ∙ ap (λ xs. slice_range xs l (l + 16)) c.deref.ensures.value)
