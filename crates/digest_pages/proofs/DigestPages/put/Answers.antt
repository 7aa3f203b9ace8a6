use Rattle.std.proofs.Common.{◌<◌, ◌+◌, ◌*◌, ◌/◌, ◌%◌, [], ap, sym, subst, ◌∙◌, length}
use Rattle.std.specs.Prelude.{slice_set}
use Rattle.std.proofs.lemmas.List.{get_or_default, length-set}
use Rattle.std.proofs.lemmas.Result.{err_from_is_err_and}
use Rattle.digest_pages.specs.Pages.{IsPut}
use Rattle.digest_pages.proofs.PageLaws.{few_more, grown_are, grown_in, inside_of, put_are, put_in, same_back}
use Rattle.digest_pages.proofs.DigestPages.put.Goals as goal

pub invariant_of-self : goal.invariant_of-self
invariant_of-self c =
    let old = c.self.inside in
    let pages = c.grow.new.pages.items in
    let few = few_more old.count (length old.pages.items) (length pages) c.args.index c.self.invariant.few c.grow.ensures.few (inside_of old.count old.pages.items c.args.self.now c.args.index c.self.view_is c.requires) in
    grown_are old.count old.pages.items pages c.self.invariant c.grow.ensures.same few

pub returns-in_err-grow-clause-kept : goal.returns-in_err-grow-clause-kept
returns-in_err-grow-clause-kept c =
    let p = err_from_is_err_and c.from_residual.result c.from_residual.ensures.1 in
    let old = c.self.inside in
    rw p.1 (grown_in old.count old.pages.items c.grow.new.pages.items c.self.invariant c.grow.ensures.same ∙ c.self.view_is)

pub invariant_of-self-in_err-put : goal.invariant_of-self-in_err-put
invariant_of-self-in_err-put c =
    let old = c.self.inside in
    let pages = c.grow.new.pages.items in
    let page = c.args.index / 256 in
    let few = few_more old.count (length old.pages.items) (length pages) c.args.index c.self.invariant.few c.grow.ensures.few (inside_of old.count old.pages.items c.args.self.now c.args.index c.self.view_is c.requires) in
    let is = c.in_err-put.ensures.kept ∙ c.index_mut.ensures.value ∙ get_or_default pages page c.index_mut.result.now [] c.in_ok-grow.ensures.there in
    grown_are old.count old.pages.items (slice_set pages page c.put.new.self) c.self.invariant (same_back old.pages.items pages page c.put.new.self c.grow.ensures.same is)
    (subst (λ l. 256 * l < old.count + 256) (sym (length-set pages page c.put.new.self)) few)

pub returns-in_err-put-clause-kept : goal.returns-in_err-put-clause-kept
returns-in_err-put-clause-kept c =
    let p = err_from_is_err_and c.from_residual-in_err-put.result c.from_residual-in_err-put.ensures.1 in
    let old = c.self.inside in
    let pages = c.grow.new.pages.items in
    let page = c.args.index / 256 in
    let is = c.in_err-put.ensures.kept ∙ c.index_mut.ensures.value ∙ get_or_default pages page c.index_mut.result.now [] c.in_ok-grow.ensures.there in
    rw p.1 (grown_in old.count old.pages.items (slice_set pages page c.put.new.self) c.self.invariant (same_back old.pages.items pages page c.put.new.self c.grow.ensures.same is) ∙ c.self.view_is)

pub invariant_of-self-2 : goal.invariant_of-self-2
invariant_of-self-2 c =
    let old = c.self.inside in
    let pages = c.grow.new.pages.items in
    let page = c.args.index / 256 in
    let there = c.in_ok-grow.ensures.there in
    let inside = inside_of old.count old.pages.items c.args.self.now c.args.index c.self.view_is c.requires in
    let few = few_more old.count (length old.pages.items) (length pages) c.args.index c.self.invariant.few c.grow.ensures.few inside in
    let put = subst (λ p. IsPut (c.args.index % 256) c.args.digest p c.put.new.self) (c.index_mut.ensures.value ∙ get_or_default pages page c.index_mut.result.now [] there) c.in_ok-put.ensures.put in
    put_are old.count old.pages.items pages c.args.index c.args.digest c.put.new.self c.self.invariant c.grow.ensures.same inside there few put

pub returns-clause-put : goal.returns-clause-put
returns-clause-put c =
    let old = c.self.inside in
    let pages = c.grow.new.pages.items in
    let page = c.args.index / 256 in
    let there = c.in_ok-grow.ensures.there in
    let inside = inside_of old.count old.pages.items c.args.self.now c.args.index c.self.view_is c.requires in
    let put = subst (λ p. IsPut (c.args.index % 256) c.args.digest p c.put.new.self) (c.index_mut.ensures.value ∙ get_or_default pages page c.index_mut.result.now [] there) c.in_ok-put.ensures.put in
    put_in old.count old.pages.items pages c.args.index c.args.digest c.put.new.self c.self.invariant c.grow.ensures.same inside there put
    ∙ ap (λ xs. slice_set xs c.args.index c.args.digest) c.self.view_is
