use Rattle.std.proofs.Common.{◌<◌, ◌≤◌, ◌/◌, ◌%◌, [], ap, sym, ◌∙◌, length, rules}
use Rattle.std.specs.Prelude.{slice_index}
use Rattle.std.proofs.lemmas.List.{get_or_default, get_or_past}
use Rattle.digest_pages.proofs.PageLaws.{at_index}
use Rattle.digest_pages.proofs.DigestPages.get.Goals as goal

pub returns-then-page-len : goal.returns-then-page-len
returns-then-page-len c =
    let pages = c.self.inside.pages.items in
    let there : c.args.index / 256 < length pages = search rules in
    c.get.ensures ∙ ap (λ page. slice_index page (c.args.index % 256)) (c.index.ensures ∙ get_or_default pages (c.args.index / 256) c.index.result.now [] there)
    ∙ sym (at_index c.self.inside.count pages c.self.invariant c.args.index) ∙ ap (λ xs. slice_index xs c.args.index) c.self.view_is

pub returns-else-page-len : goal.returns-else-page-len
returns-else-page-len c =
    let pages = c.self.inside.pages.items in
    let past : length pages ≤ c.args.index / 256 = search rules in
    ap (λ page. slice_index page (c.args.index % 256)) (sym (get_or_past pages (c.args.index / 256) [] past))
    ∙ sym (at_index c.self.inside.count pages c.self.invariant c.args.index) ∙ ap (λ xs. slice_index xs c.args.index) c.self.view_is
