use Rattle.std.proofs.Common.{◌≡◌, ◌+◌, ◌-◌, ◌∙◌, ap, length, arith, rules}
use Rattle.std.proofs.lemmas.List.{with_items_is, places}
use Rattle.cell_base.specs.Bytes.{put}
use Rattle.local_store.proofs.Kept.{written, rewritten}
use Rattle.local_store.proofs.LocalStore.copy_in.Goals as goal

pub returns : goal.returns
returns c =
    let at = c.args.at in
    let from = c.args.from.now in
    let b = c.reach.new.bytes in
    let count : at + length from - at ≡ length from = omega arith in
    written b.items _ from at c.reach.ensures.end
    (with_items_is b _ (search (rules, places)) ∙ rewritten b.items _ from _ at _ c.deref_mut.ensures.value c.copy_from_slice.ensures.after count)
    ∙ ap (λ s. put s at from) (c.reach.ensures.same ∙ c.self.view_is)
