use Rattle.std.proofs.Common.{◌≡◌, ◌+◌, ◌-◌, ◌*◌, ◌/◌, ◌%◌, ◌∙◌, ap, sym, suc, length, arith, rules}
use Rattle.std.specs.Prelude.{slice_index}
use Rattle.std.proofs.lemmas.List.{with_items_is, places}
use Rattle.cell_base.specs.Bytes.{put}
use Rattle.main_memory.specs.Pages.{bytes_in}
use Rattle.main_memory.proofs.PageLaws.{length_in, put_in, rewritten, same_in, within_of}
use Rattle.main_memory.proofs.Memory.write.Goals as goal

pub kept_index-index-requires-clause-there : goal.kept_index-index-requires-clause-there
kept_index-index-requires-clause-there c =
    let m = c.self.inside in
    let within = within_of (128 * m.lines) m.numbers.items m.kept.items c.args.self.now (c.args.at + length c.args.from.now) c.self.view_is c.requires.within in
    omega (arith, within, c.self.invariant)

pub returns-clause-bytes : goal.returns-clause-bytes
returns-clause-bytes c =
    let m = c.self.inside in
    let at = c.args.at in
    let from = c.args.from.now in
    let new = c.kept_index-index.new in
    let index = c.kept_index-index.result in
    let start = index * 4096 + at % 4096 in
    let count : start + length from - start ≡ length from = omega arith in
    let number : slice_index new.numbers.items (at / 4096) ≡ suc index = c.kept_index-index.ensures.index ∙ omega arith in
    let within = within_of (128 * m.lines) m.numbers.items m.kept.items c.args.self.now (at + length from) c.self.view_is c.requires.within in
    ap (bytes_in (128 * m.lines) new.numbers.items)
    (with_items_is new.kept _ (search (rules, places)) ∙ rewritten new.kept.items _ from _ start _ c.deref_mut.ensures.value c.copy_from_slice.ensures.after count)
    ∙ put_in (128 * m.lines) new.numbers.items new.kept.items from at index c.kept_index-index.ensures.pages within c.requires.one number
    ∙ ap (λ xs. put xs at from) (same_in (128 * m.lines) m.numbers.items m.kept.items new.numbers.items new.kept.items c.kept_index-index.ensures.same ∙ c.self.view_is)

pub returns-clause-count : goal.returns-clause-count
returns-clause-count c =
    let count = 128 * c.self.inside.lines in
    length_in count c.kept_index-index.new.numbers.items _ ∙ sym (length_in count c.self.inside.numbers.items c.self.inside.kept.items) ∙ ap length c.self.view_is
