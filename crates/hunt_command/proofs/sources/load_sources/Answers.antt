use Rattle.std.proofs.lemmas.Result.{err_from_is_err_and}
use Rattle.cell_load.specs.Loaded.{loaded}
use Rattle.cell_commands.specs.Forms.{with_setup}
use Rattle.cell_commands.proofs.Steps.{leads_on, refuses_after}
use Rattle.hunt_command.proofs.sources.load_sources.Goals as goal

pub returns-in_err-sources-clause-comes : goal.returns-in_err-sources-clause-comes
returns-in_err-sources-clause-comes g c = λ told is next.
    let p = err_from_is_err_and c.from_residual.result c.from_residual.ensures.1 in
    rw (p.1, p.2) (rw c.sources.ensures.named at (c.in_err-sources.ensures.comes told is (λ images. with_setup (loaded c.args.planned.plan images) next)))

pub returns-in_err-setup-clause-comes : goal.returns-in_err-setup-clause-comes
returns-in_err-setup-clause-comes g c = λ told is next.
    let p = err_from_is_err_and c.from_residual-in_err-setup.result c.from_residual-in_err-setup.ensures.1 in
    let r = rw c.sources.ensures.named at (c.in_ok-sources.ensures.comes told is (λ images. with_setup (loaded c.args.planned.plan images) next)) in
    rw (p.1, p.2) (refuses_after told _ _ _ _ _ r (rw c.as_slice-2.ensures.value at (c.in_err-setup.ensures.comes told (g.T.Store.ledger c.args.files.now) (g.T.Store.ledger c.read_sources.new.files) next)))

pub returns-clause-comes : goal.returns-clause-comes
returns-clause-comes g c = λ told is next.
    let r = rw c.sources.ensures.named at (c.in_ok-sources.ensures.comes told is (λ images. with_setup (loaded c.args.planned.plan images) next)) in
    leads_on r (rw c.as_slice-2.ensures.value at (c.in_ok-setup.ensures.comes told (g.T.Store.ledger c.args.files.now) (g.T.Store.ledger c.read_sources.new.files) next))

pub returns-clause-places : goal.returns-clause-places
returns-clause-places g c = λ told is. record {
  placings = rw c.as_slice.ensures.value at c.in-Ok.ensures;
  sources = rw c.sources.ensures.named at (c.in_ok-sources.ensures.listed told is);
}

pub returns-in_err-setup-clause-cause : goal.returns-in_err-setup-clause-cause
returns-in_err-setup-clause-cause g c =
    let p = err_from_is_err_and c.from_residual-in_err-setup.result c.from_residual-in_err-setup.ensures.1 in
    rw (p.1, p.2) (c.in_err-setup.ensures.cause _ _)
