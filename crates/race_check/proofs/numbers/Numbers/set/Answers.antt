use Rattle.std.proofs.Common.{arith, ◌≤◌, ◌+◌, ◌*◌, ◌%◌, ◌<◌, sym, ap, subst, ◌∙◌}
use Rattle.std.specs.Prelude.{slice_set}
use Rattle.std.proofs.lemmas.Result.{err_from_is_err_and}
use Rattle.race_check.specs.Numbers.{ArePages, numbers_in}
use Rattle.race_check.proofs.NumberLaws.{inside_of, same_in, set_are, set_in}
use Rattle.race_check.proofs.numbers.Numbers.set.Goals as goal

pub own_page-requires-clause-inside : goal.own_page-requires-clause-inside
own_page-requires-clause-inside c =
    let old = c.self.inside in
    let slot = inside_of old.count old.starts.items old.kept.items c.args.self.now c.args.slot c.self.view_is c.requires in
    let enough = c.self.invariant.0 in
    omega (arith, slot, enough)

pub returns-in_err-start-clause-kept : goal.returns-in_err-start-clause-kept
returns-in_err-start-clause-kept c =
    let p = err_from_is_err_and c.from_residual-in_err-start.result c.from_residual-in_err-start.ensures.1 in
    let old = c.self.inside in
    rw p.1 (same_in old.count old.starts.items old.kept.items c.own_page.new.starts.items c.own_page.new.kept.items c.own_page.ensures.same ∙ c.self.view_is)

pub invariant_of-self-2 : goal.invariant_of-self-2
invariant_of-self-2 c =
    let starts = c.own_page.new.starts.items in
    let kept = c.own_page.new.kept.items in
    let is = c.in_ok-start.ensures.start in
    let pages = set_are starts kept c.own_page.ensures.pages c.args.slot c.in_ok-number.number (subst (λ start. 0 < start) is c.in_ok-start.ensures.own) in
    (subst (λ n. c.self.inside.count ≤ 64 * n) (sym c.own_page.ensures.long) c.self.invariant.0, subst (λ start. ArePages starts (slice_set kept (start + c.args.slot % 64) c.in_ok-number.number)) (sym is) pages)

pub returns-clause-set : goal.returns-clause-set
returns-clause-set c =
    let old = c.self.inside in
    let starts = c.own_page.new.starts.items in
    let kept = c.own_page.new.kept.items in
    let is = c.in_ok-start.ensures.start in
    let slot = inside_of old.count old.starts.items old.kept.items c.args.self.now c.args.slot c.self.view_is c.requires in
    ap (λ start. numbers_in old.count starts (slice_set kept (start + c.args.slot % 64) c.in_ok-number.number)) is
    ∙ set_in starts kept c.own_page.ensures.pages c.args.slot c.in_ok-number.number (subst (λ start. 0 < start) is c.in_ok-start.ensures.own) old.count slot
    ∙ ap (λ xs. slice_set xs c.args.slot c.in_ok-number.number) (same_in old.count old.starts.items old.kept.items starts kept c.own_page.ensures.same ∙ c.self.view_is)
    ∙ ap (slice_set c.args.self.now c.args.slot) c.in_ok-number.ensures
