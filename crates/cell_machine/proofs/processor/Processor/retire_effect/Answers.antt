use Rattle.std.proofs.Common.{sym, ◌∙◌, ap}
use Rattle.std.specs.Prelude.{Some}
use Rattle.tag_groups.specs.declared.Tags.{Tags}
use Rattle.cell_machine.specs.Transfers.{with_retired}
use Rattle.cell_machine.specs.Effects.{is_fixed}
use Rattle.cell_machine.proofs.Controllers.{retire-facts}
use Rattle.cell_machine.proofs.StepEffects.{retire-none, retire-effect}
use Rattle.cell_machine.proofs.processor.Processor.retire_effect.Goals as goal

pub returns-then-not-may_retire : goal.returns-then-not-may_retire
returns-then-not-may_retire c = λ P shows. retire-none P c.args.cmd (sym (c.may_retire.ensures.may P shows) ∙ c.if-not-may_retire.true)

pub returns : goal.returns
returns c = λ P shows.
    let may = sym (c.may_retire.ensures.may P shows) ∙ c.if-not-may_retire.false in
    let f = retire-facts P c.args.cmd may in
    ap Some c.looking.ensures
    ∙ retire-effect P c.args.cmd _ _ may c.nowhere.ensures
    (c.fixes_by_retirement-fixed.ensures P.moves f.0 shows.queue f.1 f.2 ∙ ap (λ (t : Tags). is_fixed t (with_retired P.moves c.args.cmd)) (sym shows.tags))
