use Rattle.std.proofs.Common.{sym, ◌∙◌}
use Rattle.cell_base.specs.declared.steps.Step.TheVariants.{Atomic}
use Rattle.cell_hunt.specs.Choices.{key_of}
use Rattle.cell_hunt.specs.Offers.{offered}
use Rattle.cell_hunt.proofs.Bests.{best-more, offered-one}
use Rattle.cell_hunt.proofs.offers.with_atomic.Goals as goal

pub returns : goal.returns
returns c = λ steps so_far.
    let m = c.args.machine.now in
    best-more (key_of m c.args.strategy c.args.keys.now) steps (offered m (Atomic c.args.spe)) (Atomic c.args.spe) c.with_step.result
    (offered-one m (Atomic c.args.spe) (sym c.has_atomic_step.ensures ∙ c.if-not-has_atomic_step.false)) (c.with_step.ensures steps so_far)
