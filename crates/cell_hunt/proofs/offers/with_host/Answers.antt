use Rattle.std.proofs.Common.{sym, ◌∙◌, ap, not}
use Rattle.std.specs.Prelude.{is_some}
use Rattle.cell_base.specs.declared.steps.Step.TheVariants.{Host}
use Rattle.cell_hunt.specs.Choices.{key_of}
use Rattle.cell_hunt.specs.Offers.{offered}
use Rattle.cell_hunt.proofs.Bests.{best-more, offered-one}
use Rattle.cell_hunt.proofs.Offering.{pick-host}
use Rattle.cell_hunt.proofs.offers.with_host.Goals as goal

pub returns : goal.returns
returns c = λ steps so_far.
    let m = c.args.machine.now in
    let there = sym (pick-host m) ∙ sym (ap is_some c.pick.ensures.picked) ∙ c.is_none.ensures ∙ ap not c.if-is_none.false in
    best-more (key_of m c.args.strategy c.args.keys.now) steps (offered m Host) Host c.with_step.result (offered-one m Host there) (c.with_step.ensures steps so_far)
