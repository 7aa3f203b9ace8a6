use Rattle.std.proofs.Common.{◌+◌, ◌≤◌, ◌∙◌, ap, sym, length, slice_range, arith, rules}
use Rattle.cell_base.specs.Bytes.{number}
use Rattle.local_store.proofs.Kept.{kept, word_past}
use Rattle.local_store.proofs.WordLemmas.{number_of_four}
use Rattle.local_store.proofs.LocalStore.word.Goals as goal

pub returns-then-at-len : goal.returns-then-at-len
returns-then-at-len c =
    let behind : length c.self.inside.bytes.items ≤ c.args.at = search rules in
    word_past c.self.inside.bytes.items _ c.args.at c.self.view_is behind (omega (arith, c.requires.aligned, c.requires.within))

pub returns : goal.returns
returns c =
    let at = c.args.at in
    let inside : at + 4 ≤ length c.self.inside.bytes.items = search rules in
    c.from_be_bytes.ensures ∙ number_of_four c.copy_from_slice.new.self c.copy_from_slice.ensures.len
    ∙ ap number (c.copy_from_slice.ensures.after ∙ ap (λ xs. slice_range xs at (at + 4)) c.deref.ensures.value ∙ sym (kept c.self.inside.bytes.items at (at + 4) (omega arith) inside)
    ∙ ap (λ s. slice_range s at (at + 4)) c.self.view_is)
