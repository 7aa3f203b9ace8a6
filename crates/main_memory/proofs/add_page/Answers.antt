use Rattle.std.proofs.Common.{◌≡◌, ◌+◌, ◌*◌, ◌/◌, length, true, arith, rules, vec_len, subst, sym}
use Rattle.std.specs.Prelude.{is_ok, slice_set}
use Rattle.main_memory.specs.Pages.{ArePages, AreSame}
use Rattle.main_memory.proofs.PageLaws.{added_are, added_same, has_room, longer}
use Rattle.main_memory.proofs.add_page.Goals as goal

pub returns-clause-same : goal.returns-clause-same
returns-clause-same c =
    let numbers = c.args.numbers.now.items in
    let kept = c.args.kept.now.items in
    let page = c.args.page in
    let room = has_room numbers kept page c.requires.pages c.requires.there c.requires.unwritten in
    let len : vec_len c.args.kept.now ≡ length kept = search rules in
    let ok : is_ok c.resize.result ≡ true = c.resize.ensures.succeeds (omega arith) in
    let more = longer kept c.resize.new.self.items (c.len.result + 4096) (vec_len c.args.kept.now) (omega arith) len (rw ok at c.resize.ensures.items) in
    let index : length kept ≡ c.len-index.result / 4096 * 4096 = omega (arith, c.requires.pages.whole) in
    subst (AreSame numbers kept (slice_set numbers page (c.len-index.result / 4096 + 1))) (sym more)
    (added_same numbers kept page (c.len-index.result / 4096) c.requires.pages c.requires.there c.requires.unwritten index)

pub returns-clause-pages : goal.returns-clause-pages
returns-clause-pages c =
    let numbers = c.args.numbers.now.items in
    let kept = c.args.kept.now.items in
    let page = c.args.page in
    let room = has_room numbers kept page c.requires.pages c.requires.there c.requires.unwritten in
    let len : vec_len c.args.kept.now ≡ length kept = search rules in
    let ok : is_ok c.resize.result ≡ true = c.resize.ensures.succeeds (omega arith) in
    let more = longer kept c.resize.new.self.items (c.len.result + 4096) (vec_len c.args.kept.now) (omega arith) len (rw ok at c.resize.ensures.items) in
    let index : length kept ≡ c.len-index.result / 4096 * 4096 = omega (arith, c.requires.pages.whole) in
    subst (ArePages (slice_set numbers page (c.len-index.result / 4096 + 1))) (sym more)
    (added_are numbers kept page (c.len-index.result / 4096) c.requires.pages c.requires.there c.requires.unwritten index)
