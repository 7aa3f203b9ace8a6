use Rattle.std.proofs.Common.{sym, ap, ◌∙◌, not}
use Rattle.std.specs.Prelude.{Some, is_some}
use Rattle.cell_base.specs.declared.steps.Step.TheVariants.{Exec}
use Rattle.cell_hunt.specs.Choices.{key_of}
use Rattle.cell_hunt.specs.Offers.{offered}
use Rattle.cell_hunt.proofs.Bests.{best-beaten, best-more, offered-one, step-best}
use Rattle.cell_hunt.proofs.Offering.{pick-exec}
use Rattle.cell_hunt.proofs.offers.with_instruction.Goals as goal

pub returns-then-is_beaten : goal.returns-then-is_beaten
returns-then-is_beaten c = λ steps so_far.
    best-beaten (key_of c.args.machine.now c.args.strategy c.args.keys.now) c.args.machine.now steps c.args.best (Exec c.args.spe) c.key_of-key.result c.key_of-key.ensures (sym c.is_beaten.ensures ∙ c.if-is_beaten.true) so_far

pub returns : goal.returns
returns c = λ steps so_far.
    let m = c.args.machine.now in
    let there = sym (pick-exec m c.args.spe) ∙ sym (ap is_some c.pick.ensures.picked) ∙ c.is_none.ensures ∙ ap not c.if-is_none.false in
    best-more (key_of m c.args.strategy c.args.keys.now) steps (offered m (Exec c.args.spe)) (Exec c.args.spe) (Some (record { key = c.key_of-key.result; step = Exec c.args.spe })) (offered-one m (Exec c.args.spe) there)
    (step-best (key_of m c.args.strategy c.args.keys.now) steps c.args.best (Exec c.args.spe) c.key_of-key.result c.key_of-key.ensures (sym c.is_beaten.ensures ∙ c.if-is_beaten.false) so_far)
