use Rattle.std.proofs.Common.{◌≡◌, ◌+◌, ◌-◌, ◌≤◌, ◌∙◌, ap, length, arith, rules}
use Rattle.std.proofs.lemmas.List.{with_items_is, places}
use Rattle.cell_base.specs.Bytes.{put}
use Rattle.local_store.proofs.Kept.{written, rewritten}
use Rattle.local_store.proofs.LocalStore.set_quad.Goals as goal

pub returns : goal.returns
returns c =
    let l = c.line_of-line.result in
    let b = c.self.inside.bytes in
    let size : length c.args.q ≡ 16 = search rules in
    let count : l + 16 - l ≡ length c.args.q = omega (arith, size) in
    let end : l + 16 ≤ length b.items = search rules in
    let inside : l + length c.args.q ≤ length b.items = omega (arith, size, end) in
    let new : c.copy_from_slice.new.self ≡ c.args.q = search rules in
    written b.items _ c.args.q l inside (with_items_is b _ (search (rules, places)) ∙ rewritten b.items _ c.args.q _ l _ c.deref_mut.ensures.value new count)
    ∙ ap (λ s. put s l c.args.q) c.self.view_is ∙ ap (λ at. put c.args.self.now at c.args.q) c.line_of-line.ensures.value
