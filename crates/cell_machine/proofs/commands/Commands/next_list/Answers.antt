use Rattle.std.proofs.Common.{sym, ◌∙◌, ap}
use Rattle.std.specs.Prelude.{is_some, not}
use Rattle.cell_machine.proofs.SpeShown.{on_of, begins-closed, begins-open, begins-not, complete-no_element, plain-no_element, list-kind, plain-kind}
use Rattle.cell_machine.proofs.ListsGo.{rest-next}
use Rattle.cell_machine.proofs.commands.Commands.next_list.Goals as goal

pub returns-in_default-clause-may : goal.returns-in_default-clause-may
returns-in_default-clause-may c = λ m shows.
    sym (begins-closed shows.calls m c.args.cmd _ shows.moves (sym (c.look.ensures.outstanding shows.calls shows.stands) ∙ ap is_some c.in_default.is)
    (λ d at h. complete-no_element m c.args.cmd d (shows.moves.done.elements c.args.cmd d at) at h))

pub returns-in_default-list-clause-may : goal.returns-in_default-list-clause-may
returns-in_default-list-clause-may c = λ m shows. sym (begins-not m c.args.cmd _ (λ d at. plain-no_element m c.args.cmd d (plain-kind m c.args.cmd d c.list.result (c.list.ensures m d shows at) c.in_default-list.is)))

pub returns-clause-may : goal.returns-clause-may
returns-clause-may c = λ m shows.
    let is = sym (c.look.ensures.outstanding shows.calls shows.stands) ∙ ap is_some c.in-Some.is in
    let w = c.in-Some.ensures.seen.waits shows.calls shows.stands in
    sym (on_of _ c.if-not-w.false) ∙ w.may_start ∙ begins-open shows.calls m c.args.cmd _ shows.moves is (λ d at.
    let l = list-kind m c.args.cmd d c.list.result c.in-Some-list.list (c.list.ensures m d shows at) c.in-Some-list.is in
    rest-next m c.args.cmd d l.0 ∙ ap is_some (sym (c.next_at.ensures.next _ l.1)) ∙ c.is_none.ensures ∙ ap not c.if-is_none.false)

pub returns-clause-some : goal.returns-clause-some
returns-clause-some c = λ m d shows at. (list-kind m c.args.cmd d c.list.result c.in-Some-list.list (c.list.ensures m d shows at) c.in-Some-list.is).1
