use Rattle.std.proofs.Common.{sym, ◌∙◌, ap}
use Rattle.std.specs.Prelude.{is_some}
use Rattle.cell_machine.proofs.SpeShown.{list-kind, plain-kind, plain-no_element}
use Rattle.cell_machine.proofs.ListsGo.{rest-next}
use Rattle.cell_machine.proofs.progress.has_next.Goals as goal

pub returns-in-Some : goal.returns-in-Some
returns-in-Some c = λ m k d is.
    let l = list-kind m k d c.args.list c.in-Some.list is c.in-Some.is in
    c.is_some.ensures ∙ ap is_some (c.next_at.ensures.next _ l.1) ∙ sym (rest-next m k d l.0)

pub returns-in-None : goal.returns-in-None
returns-in-None c = λ m k d is. sym (plain-no_element m k d (plain-kind m k d c.args.list is c.in-None.is))
