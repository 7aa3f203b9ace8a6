use Rattle.std.proofs.Common.{◌≡◌, ℕ, ◌<◌, ◌≤◌, ◌+◌, ◌*◌, [], ap, sym, subst, ◌∙◌, length, rules}
use Rattle.std.specs.Prelude.{slice_index}
use Rattle.std.proofs.lemmas.List.{get_or_default}
use Rattle.digest_pages.specs.Nexts.{IsNext}
use Rattle.digest_pages.specs.Pages.{digests_in}
use Rattle.digest_pages.proofs.PageLaws.{length_in, next_at, next_inside, none_next, none_passed, passed_more}
use Rattle.digest_pages.proofs.DigestPages.next_written.Goals as goal
use Rattle.digest_pages.proofs.DigestPages.next_written.Goals.{In-Some}

pub loop-page-init : goal.loop-page-init
loop-page-init c = none_passed c.self.inside.pages.items c.args.from

pub loop-page-preserved : goal.loop-page-preserved
loop-page-preserved c =
    let pages = c.self.inside.pages.items in
    let page = c.loop-page.page in
    let there : page < length pages = search rules in
    let zeros = subst (λ first. (k : ℕ) → first ≤ k → slice_index c.index.result.now k ≡ 0) c.saturating_sub.ensures c.in_default.ensures.next in
    passed_more pages c.args.from page c.index.result.now c.loop-page.invariant (c.index.ensures ∙ get_or_default pages page c.index.result.now [] there) zeros

is_next : (c : In-Some) → IsNext (digests_in c.self.inside.count c.self.inside.pages.items) c.args.from (c.loop-page.page * 256 + c.in-Some.at)
is_next c =
    let pages = c.self.inside.pages.items in
    let page = c.loop-page.page in
    let there : page < length pages = search rules in
    let next = subst (λ first. IsNext c.index.result.now first c.in-Some.at) c.saturating_sub.ensures c.in-Some.ensures.next in
    next_at c.self.inside.count pages c.args.from page c.in-Some.at c.index.result.now c.self.invariant c.loop-page.invariant
    (c.index.ensures ∙ get_or_default pages page c.index.result.now [] there) c.in-Some.ensures.inside next

pub returns-in-Some-clause-next : goal.returns-in-Some-clause-next
returns-in-Some-clause-next c =
    let v = (goal.at.returns-in-Some-clause-next c).In-Some in
    subst (λ xs. IsNext xs v.args.from (v.loop-page.page * 256 + v.in-Some.at)) v.self.view_is (is_next v)

pub returns-in-Some-clause-inside : goal.returns-in-Some-clause-inside
returns-in-Some-clause-inside c =
    let v = (goal.at.returns-in-Some-clause-inside c).In-Some in
    let n = v.loop-page.page * 256 + v.in-Some.at in
    let count = v.self.inside.count in
    let pages = v.self.inside.pages.items in
    subst (λ k. n < k) (sym (length_in count pages) ∙ ap length v.self.view_is) (next_inside count pages v.args.from n v.self.invariant (is_next v))

pub returns-clause-next : goal.returns-clause-next
returns-clause-next c = λ k high.
    (let pages = c.self.inside.pages.items in
    let past : length pages ≤ c.loop-page.page = search rules in
    ap (λ xs. slice_index xs k) (sym c.self.view_is) ∙ none_next c.self.inside.count pages c.args.from c.loop-page.page c.self.invariant c.loop-page.invariant past k high)
