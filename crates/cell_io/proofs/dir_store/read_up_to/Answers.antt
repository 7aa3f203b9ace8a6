use Rattle.std.proofs.Common.{refl, ap, arith, ◌∙◌, ◌++◌}
use Rattle.std.proofs.lemmas.List.{length-take-le, take-append-le}
use Rattle.cell_io.proofs.AdapterLemmas.{given_in_part, given_too_long}
use Rattle.cell_io.proofs.dir_store.read_up_to.Goals as goal

pub returns-in_default-clause-told : goal.returns-in_default-clause-told
returns-in_default-clause-told g c = given_in_part _ _ _ _ _ _ _ _ c.loop-count.invariant.told refl refl

pub returns-in_err-extend_from_slice-clause-told :
    goal.returns-in_err-extend_from_slice-clause-told
returns-in_err-extend_from_slice-clause-told g c =
    given_in_part _ _ _ _ _ _ _ _ c.loop-count.invariant.told c.in_err-extend_from_slice.ensures.items c.from_residual.ensures.0

pub returns-then-count-left-clause-told : goal.returns-then-count-left-clause-told
returns-then-count-left-clause-told g c =
    given_too_long _ _ _ _ _ _ _ _ _
    c.loop-count.invariant.told c.in-Ok.ensures.bytes.0
    (c.in_ok-extend_from_slice.ensures.items ∙ ap (λ bytes. c.loop-count.into.items ++ bytes) (take-append-le _ _ _ c.in-Ok.ensures.bound.0))
    (omega (arith, c.if-count-left.true, length-take-le c.in-Ok.count _ c.in-Ok.ensures.bound.0))
