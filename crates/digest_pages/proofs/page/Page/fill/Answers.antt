use Rattle.std.proofs.Common.{◌++◌, ◌-◌, ap, ◌∙◌}
use Rattle.std.specs.Prelude.{replicate, slice_index}
use Rattle.std.proofs.lemmas.List.{take_all}
use Rattle.std.specs.Vec.{vec_len}
use Rattle.digest_pages.proofs.PageLaws.{zeros_after}
use Rattle.digest_pages.proofs.page.Page.fill.Goals as goal

pub returns-clause-same : goal.returns-clause-same
returns-clause-same c = λ k.
    (let old = c.self.inside.digests.items in
    let more = 256 - vec_len c.self.inside.digests in
    ap (λ xs. slice_index xs k) (c.in_ok-resize.ensures.items ∙ ap (λ xs. xs ++ replicate more 0) (take_all 256 old c.self.invariant))
    ∙ zeros_after old more k ∙ ap (λ xs. slice_index xs k) c.self.view_is)
