use Rattle.std.proofs.Common.{map, arith}
use Rattle.std.proofs.lemmas.Result.{err_from_is_err_and}
use Rattle.cell_machine.specs.Opening.{Opening}
use Rattle.cell_load.specs.Sources.{spes_in}
use Rattle.cell_load.proofs.RowLemmas.{load_bad, load_good}
use Rattle.cell_load.proofs.SetupLemmas.{starts-length}
use Rattle.cell_load.specs.Entries.{entry_of}
use Rattle.cell_load.specs.LoadViews.{load_of}
use Rattle.cell_load.proofs.Admitted.{few_spes}
use Rattle.cell_load.proofs.MachineFits.{is_opening, registers_fit, some_spes}
use Rattle.cell_load.proofs.loading.load.Goals as goal

pub loads_in-requires : goal.loads_in-requires
loads_in-requires c = rw c.deref.ensures.value (few_spes (map entry_of c.plan.inside.lines.items) c.plan.invariant.0)

pub spes_in-spes-requires : goal.spes_in-spes-requires
spes_in-spes-requires c = rw c.deref-2.ensures.value (few_spes (map entry_of c.plan.inside.lines.items) c.plan.invariant.0)

pub setup_in-requires-clause-limits : goal.setup_in-requires-clause-limits
setup_in-requires-clause-limits c =
    rw (c.deref-3.ensures.value, c.deref-4.ensures.value, c.in_ok-loads.ensures.all, c.deref.ensures.value)
    (is_opening (map entry_of c.plan.inside.lines.items) c.args.images.now c.plan.invariant.0 (rw c.deref.ensures.value at c.in_ok-loads.ensures.fits))

pub setup_in-requires-clause-modes : goal.setup_in-requires-clause-modes
setup_in-requires-clause-modes c =
    rw (c.deref-3.ensures.value, c.spes_in-spes.ensures, c.deref-2.ensures.value)
    (registers_fit (map entry_of c.plan.inside.lines.items) c.plan.invariant.0)

pub returns-in_err-check_processors-clause-exact : goal.returns-in_err-check_processors-clause-exact
returns-in_err-check_processors-clause-exact c =
    let p = err_from_is_err_and c.from_residual-in_err-check_processors.result c.from_residual-in_err-check_processors.ensures.1 in
    let bad = rw (c.deref-5.ensures.value, c.in_ok-loads.ensures.all, c.deref.ensures.value, c.spes_in-spes.ensures, c.deref-2.ensures.value) at c.in_err-check_processors.ensures in
    rw (p.1, p.2, ← c.plan.view_is) (load_bad (Unit {0}) Opening (λ s. s) (map entry_of c.plan.inside.lines.items) c.args.images.now _ bad)

pub returns-clause-exact : goal.returns-clause-exact
returns-clause-exact c =
    let good = rw (c.deref-5.ensures.value, c.in_ok-loads.ensures.all, c.deref.ensures.value, c.spes_in-spes.ensures, c.deref-2.ensures.value) at c.in_ok-check_processors.ensures in
    let made = rw (c.deref-3.ensures.value, c.deref-4.ensures.value, c.in_ok-loads.ensures.all, c.deref.ensures.value) at c.in_ok-setup.ensures in
    rw (made, ← c.plan.view_is) (load_good (map entry_of c.plan.inside.lines.items) c.args.images.now good)

pub returns-clause-some : goal.returns-clause-some
returns-clause-some c =
    let made = rw (c.deref-3.ensures.value, c.deref-4.ensures.value) at c.in_ok-setup.ensures in
    rw made (omega (arith, starts-length (map load_of c.in_ok-loads.loads.items) (spes_in (map entry_of c.plan.inside.lines.items)), some_spes (map entry_of c.plan.inside.lines.items) c.plan.invariant.0))
